-- The records of a scan, as its copies are gone through.
use Rattle.std.proofs.Common.{◌≡◌, ℕ, ◌+◌, ◌≤◌, List, [], ◌∷◌, ◌++◌, length, sym, ap, ◌∙◌, subst, arith, append_assoc, length-append}
use Rattle.std.specs.Prelude.{map}
use Rattle.std.proofs.lemmas.List.{append-nil, map-append, length-map}
use Rattle.log_records.specs.declared.copies.ObjectCopy.{ObjectCopy}
use Rattle.log_records.specs.declared.Record.{Record}
use Rattle.log_records.specs.declared.Record.TheVariants.{Scan}
use Rattle.log_records.specs.Record.{copy_record}
use Rattle.log_machine.specs.Effect.{WritesBelow, EachWritesBelow}
use Rattle.log_machine.proofs.ListLaws.{AllByRecursion-behind}
use Rattle.page_scanner.specs.PageScan.{ScanState, records_in}

-- the records before a copy, its own, and those behind it
pub records_at : (scan : ScanState) (before left behind : List ObjectCopy) (copy : ObjectCopy) → scan.copies ≡ before ++ left → left ≡ copy ∷ behind
    → records_in scan ≡ map copy_record before ++ copy_record copy ∷ (map copy_record behind ++ Scan scan.page scan.writes ∷ [])
records_at scan before left behind copy all first =
    let is : scan.copies ≡ before ++ copy ∷ behind = all ∙ ap (λ (l : List ObjectCopy). before ++ l) first in
    ap (λ (cs : List ObjectCopy). map copy_record cs ++ Scan scan.page scan.writes ∷ []) is
    ∙ ap (λ (rs : List Record). rs ++ Scan scan.page scan.writes ∷ []) (map-append copy_record before (copy ∷ behind))
    ∙ append_assoc (map copy_record before) (copy_record copy ∷ map copy_record behind) (Scan scan.page scan.writes ∷ [])

-- with one more copy
pub records_more : (before : List ObjectCopy) (copy : ObjectCopy) → map copy_record (before ++ copy ∷ []) ≡ map copy_record before ++ copy_record copy ∷ []
records_more before copy = map-append copy_record before (copy ∷ [])

-- one more copy is taken
pub taken_more : (scan : ScanState) (before left behind : List ObjectCopy) (copy : ObjectCopy) → scan.copies ≡ before ++ left → left ≡ copy ∷ behind → scan.copies ≡ (before ++ copy ∷ []) ++ behind
taken_more scan before left behind copy all first = all ∙ ap (λ (l : List ObjectCopy). before ++ l) first ∙ sym (append_assoc before (copy ∷ []) behind)

-- the last record comes after all copies
pub records_end : (scan : ScanState) (before left : List ObjectCopy) → scan.copies ≡ before ++ left → left ≡ [] → records_in scan ≡ map copy_record before ++ Scan scan.page scan.writes ∷ []
records_end scan before left all none =
    ap (λ (cs : List ObjectCopy). map copy_record cs ++ Scan scan.page scan.writes ∷ []) (all ∙ ap (λ (l : List ObjectCopy). before ++ l) none ∙ append-nil before)

-- a record among others that write below an address does so
pub record_below : (end : ℕ) (records before behind : List Record) (rec : Record) → records ≡ before ++ rec ∷ behind → EachWritesBelow end records → WritesBelow end rec
record_below end records before behind rec is below =
    (AllByRecursion-behind (WritesBelow end) before (rec ∷ behind) (subst (EachWritesBelow end) is below)).0

-- the copies so far are fewer than the records
pub copies_before : (scan : ScanState) (before left : List ObjectCopy) → scan.copies ≡ before ++ left → length before + 1 ≤ length (records_in scan)
copies_before scan before left all =
    omega (arith, length-append (map copy_record scan.copies) (Scan scan.page scan.writes ∷ []), length-map scan.copies copy_record, ap length all, length-append before left)
