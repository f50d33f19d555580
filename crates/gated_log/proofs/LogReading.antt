-- Lists of records and batches, one more at their end.
use Rattle.std.proofs.Common.{◌≡◌, ℕ, ◌≤◌, List, [], ◌∷◌, ◌++◌, length, ap, ◌∙◌, arith, length-append}
use Rattle.std.proofs.lemmas.List.{append-nil}
use Rattle.std.proofs.lemmas.Grind.{flat_map-append}
use Rattle.std.specs.List.{AllByRecursion}
use Rattle.log_records.specs.declared.Record.{Record}
use Rattle.log_records.specs.Record.{spelling, spellings, IsRecord}
use Rattle.log_records.proofs.RecordLaws.{some_spelling}
use Rattle.gated_log.specs.Log.{records_of}

-- a record is added to good ones
pub good_push : (records : List Record) (rec : Record) → AllByRecursion IsRecord records → IsRecord rec → AllByRecursion IsRecord (records ++ rec ∷ [])
good_push [] rec good one = (one, tt)
good_push (r ∷ rs) rec good one = (good.0, good_push rs rec good.1 one)

-- other good ones are
pub good_append : (records more : List Record) → AllByRecursion IsRecord records → AllByRecursion IsRecord more → AllByRecursion IsRecord (records ++ more)
good_append [] more good good' = good'
good_append (r ∷ rs) more good good' = (good.0, good_append rs more good.1 good')

pub spellings-push : (records : List Record) (rec : Record) → spellings (records ++ rec ∷ []) ≡ spellings records ++ spelling rec
spellings-push records rec = flat_map-append spelling records (rec ∷ []) ∙ ap (λ (l : List ℕ). spellings records ++ l) (append-nil (spelling rec))

-- the records of one more batch
pub records_of-push : (batches : List (List Record)) (records : List Record) → records_of (batches ++ records ∷ []) ≡ records_of batches ++ records
records_of-push batches records = flat_map-append (λ (l : List Record). l) batches (records ∷ []) ∙ ap (λ (l : List Record). records_of batches ++ l) (append-nil records)
