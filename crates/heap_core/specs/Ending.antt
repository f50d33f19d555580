-- The ends of transactions: when no memory is left, transactions can still be ended, and what was sealed can be forced; and they never lack room.
use Rattle.std.specs.Prelude.{◌≡◌, ◌⊎◌, ℕ, ◌+◌, ◌*◌, ◌<◌, nat_lt, List, [], ◌∷◌, length, Some, IsSome, if◌then◌else◌}
use Rattle.graph_model.specs.declared.event.Event.{Event}
use Rattle.graph_model.specs.declared.event.Event.TheVariants.{Seal, Abort, Force}
use Rattle.graph_model.specs.declared.reply.Entry.{Entry}
use Rattle.graph_model.specs.declared.reply.Reply.{Reply}
use Rattle.graph_model.specs.History.{account, acknowledged, sealed}
use Rattle.graph_model.specs.Plain.{refusal_of, reply_of}
use Rattle.graph_model.specs.Transaction.{Transaction}
use Rattle.log_records.specs.declared.Record.TheVariants.{Commit}
use Rattle.heap_memory.specs.Memory.{Memory, own}
use Rattle.heap_model.specs.Core.{Core, IsCutShort, event_records, granted_by}
use Rattle.limit_laws.specs.Room.{nothing_to_end}
use Rattle.heap_engine.specs.Ending.{SealsAlone}
use Rattle.heap_engine.specs.Reserve.{active_count}

-- An event that needs no memory: the abort of a transaction, its seal if that promotes nothing, so that its Commit is the only record, and a force of
-- commits that were not acknowledged.
abbrev pub TakesNoMemory : Core → Event → Type 0
TakesNoMemory c (Abort s) = IsSome ((account c.history).active s)
TakesNoMemory c (Seal s) = (t : Transaction) × ((account c.history).active s ≡ Some t) × (event_records c (Seal s) ≡ Commit t.number ∷ [])
TakesNoMemory c Force = acknowledged c.history < length (sealed c.history)
TakesNoMemory c event = ⊥

-- the same, by the engine and the history
abbrev pub IsReady : Memory → List Entry → Event → Type 0
IsReady m history (Abort s) = IsSome (own m s)
IsReady m history (Seal s) = SealsAlone m (own m s)
IsReady m history Force = acknowledged history < m.sealed
IsReady m history event = ⊥

-- How many entries the history keeps room for, if this many transactions are active, commits were acknowledged, and transactions were sealed: for
-- the end of each and a force after it, and for a force of what is sealed.
abbrev pub kept_entries : ℕ → ℕ → ℕ → ℕ
kept_entries active acked sealed = 2 * active + (if nat_lt acked sealed then 1 else 0)

-- those of an engine with a history
abbrev pub entries_kept : Memory → List Entry → ℕ
entries_kept m history = kept_entries (active_count m.table) (acknowledged history) m.sealed

-- An end is answered as done, unless the disk failed before, or the session has no transaction: never refused for lack of room. A force may be
-- cut short by the disk.
abbrev pub EndsAsTold : Core → Event → Reply → Type 0
EndsAsTold c event answered = (answered ≡ reply_of (refusal_of (account c.history).failed (nothing_to_end c event)) (granted_by c event)) ⊎ IsCutShort c event answered
