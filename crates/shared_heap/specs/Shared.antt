-- A heap that threads share, and their passes.
use Rattle.std.specs.Prelude.{◌≡◌, ℕ, List, ◌++◌, None}
use Rattle.disk_model.specs.declared.disk.Disk.{Ghosts}
use Rattle.graph_model.specs.declared.event.Event.{Event}
use Rattle.graph_model.specs.declared.event.Event.TheVariants.{Force}
use Rattle.graph_model.specs.declared.reply.Entry.{Entry}
use Rattle.graph_model.specs.Kinds.{Kind, Collects, Saves, kind_of}
use Rattle.graph_model.specs.History.{account, IsSession, session_of}
use Rattle.heap_core.specs.declared.heap.Heap.{Heap}
use Rattle.heap_core.specs.Ending.{TakesNoMemory}
use Rattle.heap_core.specs.HeapState.{history_of}
use Rattle.heap_core.specs.Refinement.{IsCore}
use Rattle.heap_model.specs.Core.{Core, IsRun}
use Rattle.core_laws.specs.Valid.{IsReached}
use Rattle.shared_heap.specs.declared.turned.Turned.{Turned}
use Rattle.shared_heap.specs.declared.shared.SharedHeap.{SharedHeap}
use Rattle.shared_heap.specs.Follows.{events_of}
use Rattle.turn_lock.specs.declared.pass.Pass.{Pass}
use Rattle.turn_lock.specs.Merging.{Rise}
use Rattle.turn_lock.specs.Passes as turns

-- Which events of this kind and this session, or of none, a pass with this label sends.
abbrev pub MaySendKind : ℕ → Kind → ℕ → Type 0
MaySendKind label Collects s = label ≡ 0
MaySendKind label Saves s = label ≡ 0
MaySendKind label kind s = IsSession label × (s ≡ label)

-- Which events a pass with this label sends: those of the session of that number, and each a force; with label 0 also all others that are of no
-- session, flips, scans and flushes.
abbrev pub MaySend : ℕ → Event → Type 0
MaySend label Force = Unit {0}
MaySend label event = MaySendKind label (kind_of event) (session_of event)

-- Memory may run out in this event: the core's disk has failed, or the event is none of those that take no memory.
abbrev pub MayLackMemory : Event → Core → Type 0
MayLackMemory event c = (account c.history).failed ≡ None → ¬ TakesNoMemory c event

module _ {D : Type 0} {g : Ghosts D} where
  -- the heap that was handed in, as it was then
  abbrev pub handed_in : SharedHeap D g → Heap D g
  handed_in shared = (turns.first_of shared.lock).heap

  -- It is a pass of this heap, or several that became one, and waits for no turn.
  pub record IsOpen (shared : SharedHeap D g) (pass : Pass (Turned D g) Entry) : Type 0 where
    pub of_lock : turns.IsPassOf shared.lock pass
    pub resting : turns.IsResting pass

  -- It is a pass of this heap, waits for no turn, and the places of its entries ascend.
  pub record IsPass (shared : SharedHeap D g) (pass : Pass (Turned D g) Entry) : Type 0 where
    pub of_lock : turns.IsPassOf shared.lock pass
    pub resting : turns.IsResting pass
    pub rises : Rise 0 (turns.mine_of pass)

  -- What was seen of a history is a run of the core that was handed in, with just these replies, to a core that is so.
  abbrev pub ToldOf : Heap D g → List Entry → (Core → Type 0) → Type 0
  ToldOf first seen is = (c : Core) → IsCore c first → IsReached c → (since : List Entry) × (d : Core) × (seen ≡ history_of first ++ since) × IsRun c (events_of since) d × (d.history ≡ seen) × is d

  -- the same, to whichever core
  abbrev pub Told : Heap D g → List Entry → Type 0
  Told first seen = ToldOf first seen (λ d. Unit {0})
