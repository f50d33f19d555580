-- The events that need no memory: transactions can be ended, and what was sealed can be forced, when none is left.
use Rattle.std.specs.Prelude.{◌≡◌, ℕ, ◌+◌, Bool, not, IsSome, List, [], ◌∷◌, slice_index, Option, None, Some, ⊤}
use Rattle.heap_words.specs.Word.{is_volatile}
use Rattle.log_machine.specs.declared.UndoEntry.{UndoEntry}
use Rattle.log_machine.specs.Machine.{field_at}
use Rattle.graph_model.specs.declared.event.Event.{Event}
use Rattle.graph_model.specs.declared.event.Event.TheVariants.{Seal, Abort, Force}
use Rattle.graph_model.specs.declared.reply.Reply.{Reply}
use Rattle.graph_model.specs.declared.reply.Reply.TheVariants.{Sealed, Aborted, Durable}
use Rattle.log_records.specs.declared.Record.TheVariants.{Commit}
use Rattle.txn_table.specs.Table.{TransactionState}
use Rattle.heap_memory.specs.Memory.{Memory, own}
use Rattle.heap_memory.specs.Refusals.{sealing_records}
use Rattle.heap_engine.specs.Reserve.{active_count}

-- whether the field of a write refers to no object of a transaction's area
abbrev pub is_settled : List ℕ → UndoEntry → Bool
is_settled words u = not (is_volatile (slice_index words (field_at u.object u.field)))

-- the seal of a transaction, if there is one, appends its Commit alone: it promotes nothing
abbrev pub SealsAlone : Memory → Option TransactionState → Type 0
SealsAlone m None = ⊥
SealsAlone m (Some t) = sealing_records m t ≡ Commit t.area.transaction ∷ []

-- An event that needs no memory.
abbrev pub NeedsNoMemory : Memory → Event → Type 0
NeedsNoMemory m (Abort s) = ⊤
NeedsNoMemory m (Seal s) = SealsAlone m (own m s)
NeedsNoMemory m Force = ⊤
NeedsNoMemory m event = ⊥

-- One transaction fewer is active, and this many more are sealed.
pub record EndsOne (old new : Memory) (more : ℕ) : Type 0 where
  pub active : active_count new.table + 1 ≡ active_count old.table
  pub sealed : new.sealed ≡ old.sealed + more

-- What such an event leaves: one transaction fewer, or all that were sealed are acknowledged.
abbrev pub Ends : Memory → Memory → Event → Reply → Type 0
Ends old new (Abort s) reply = IsSome (own old s) → (reply ≡ Aborted) × EndsOne old new 0
Ends old new (Seal s) reply = SealsAlone old (own old s) → (reply ≡ Sealed (old.sealed + 1)) × EndsOne old new 1
Ends old new Force reply = (reply ≡ Durable old.sealed) × (new.table ≡ old.table) × (new.sealed ≡ old.sealed)
Ends old new event reply = ⊤
