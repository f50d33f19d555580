-- What a seal has found out before it changes anything.
use Rattle.std.specs.Prelude.{◌≡◌, ℕ, List}
use Rattle.graph_words.specs.Promotion.{written_fields, promoted_by}
use Rattle.sealing.specs.declared.sealing.Sealing.{Sealing}
use Rattle.txn_table.specs.Table.{TransactionState}
use Rattle.heap_memory.specs.Memory.{Memory}
use Rattle.heap_memory.specs.Refusals.{sealing_need, sealing_records}
use Rattle.log_records.specs.declared.Record.{Record}

-- This is what the seal of a transaction promotes.
pub record IsFound (m : Memory) (t : TransactionState) (found : Sealing) : Type 0 where
  pub fields : found.fields.keys ≡ written_fields t.undo
  pub objects : found.objects.items ≡ promoted_by t.area m.words t.undo
  pub need : found.need ≡ sealing_need m t

-- The seal of a transaction appends these records, and takes that many words.
pub record IsSealOf (m : Memory) (t : TransactionState) (need : ℕ) (records : List Record) : Type 0 where
  pub takes : need ≡ sealing_need m t
  pub appends : records ≡ sealing_records m t
