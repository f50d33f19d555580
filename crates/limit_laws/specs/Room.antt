-- The room of the log. What it keeps for the ends of active transactions is enough, so their ends are never refused for lack of it.
use Rattle.std.specs.Prelude.{◌≡◌, ℕ, ◌+◌, ◌≤◌, Bool, List, [], length, Option, None, Some}
use Rattle.std.specs.List.{AllByRecursion}
use Rattle.graph_model.specs.declared.event.Event.{Event}
use Rattle.graph_model.specs.declared.event.Event.TheVariants.{Seal, Abort, Force}
use Rattle.graph_model.specs.declared.reply.Refusal.{Refusal}
use Rattle.graph_model.specs.declared.reply.Refusal.TheVariants.{NotActive}
use Rattle.graph_model.specs.Graph.{Graph}
use Rattle.graph_model.specs.History.{account, session_of, IsOfSession}
use Rattle.graph_model.specs.Plain.{refusal_of}
use Rattle.graph_model.specs.Transaction.{Transaction}
use Rattle.gated_log.specs.Log.{batches_bytes}
use Rattle.graph_words.specs.Places.{Places}
use Rattle.heap_model.specs.Core.{Core, IsRun, all_records, core_refusal, event_places, reserved, undo_behind, used}
use Rattle.heap_model.specs.Image.{StoredHeap, IsShapedLog}
use Rattle.heap_model.specs.Opening.{IsFound, rolled_back}
use Rattle.core_laws.specs.Active.{active_in}
use Rattle.core_laws.specs.Valid.{IsReached}

-- the bytes of the log that are used, and those that are kept for the ends of all active transactions
abbrev pub taken : Core → ℕ
taken c = used c + reserved (undo_behind c (all_records c)) (account c.history)

-- What is used and what is kept lie within the log, whichever events were made, granted or refused or cut short by the disk.
abbrev pub FitsTheorem : Type 0
FitsTheorem = (c d : Core) (events : List Event) → IsReached c → AllByRecursion IsOfSession events → IsRun c events d → taken d ≤ d.room

-- An end: an abort, a force, or a seal that makes no object stable.
abbrev pub IsEnd : Core → Event → Type 0
IsEnd c (Abort s) = Unit {0}
IsEnd c Force = Unit {0}
IsEnd c (Seal s) = event_places c (Seal s) ≡ []
IsEnd c event = ⊥

-- a session without a transaction has none to end
abbrev pub not_active : Option Transaction → Option Refusal
not_active None = Some NotActive
not_active (Some t) = None

-- why there is nothing to end: a force is of no session
abbrev pub nothing_to_end : Core → Event → Option Refusal
nothing_to_end c Force = None
nothing_to_end c event = not_active (active_in c (session_of event))

-- All that an end can be refused for: that the disk failed before, and then that the session has no transaction. It never lacks room, neither
-- in the log nor in memory's spaces, and it gives way to no other transaction.
abbrev pub EndsTheorem : Type 0
EndsTheorem =
    (c d : Core) (events : List Event) (event : Event) → IsReached c → AllByRecursion IsOfSession events → IsRun c events d → IsEnd d event
    → core_refusal d event ≡ refusal_of (account d.history).failed (nothing_to_end d event)

-- The batch in which an opening takes back what had not ended has room, with a gate after it.
abbrev pub RollbackTheorem : Type 0
RollbackTheorem =
    (stored : StoredHeap) (shaped : IsShapedLog stored) (born : Bool) (places : Places) (g : Graph)
    → IsFound stored shaped born places g → length (batches_bytes (rolled_back stored).batches) + 1 ≤ stored.super.log_bytes
