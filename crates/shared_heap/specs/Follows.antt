-- What a heap may become by events, one after another.
use Rattle.std.specs.Prelude.{◌≡◌, ◌≤◌, IsTrue, ℕ, List, ◌++◌, map, Ok}
use Rattle.std.specs.List.{AllByRecursion}
use Rattle.disk_model.specs.declared.disk.Disk.{Ghosts}
use Rattle.graph_model.specs.declared.event.Event.{Event}
use Rattle.graph_model.specs.declared.reply.Entry.{Entry}
use Rattle.graph_model.specs.declared.reply.Reply.{Reply}
use Rattle.graph_model.specs.declared.reply.Reply.TheVariants.{Durable}
use Rattle.graph_model.specs.History.{IsOfSession}
use Rattle.image_plan.specs.declared.superblock.Super.{Super}
use Rattle.heap_core.specs.declared.heap.Heap.{Heap}
use Rattle.heap_core.specs.Causes.{IsCausedBy, reply_device}
use Rattle.heap_core.specs.HeapState.{heap_disk, history_of}
use Rattle.heap_core.specs.Refinement.{IsCore, IsHeap}
use Rattle.heap_core.specs.Steps.{HeapStep, AreSteps}
use Rattle.heap_model.specs.Core.{Core, IsRun}
use Rattle.core_laws.specs.Valid.{IsReached}

-- how many commits a reply acknowledges, 0 if it acknowledges none
abbrev pub acknowledges : Reply → ℕ
acknowledges (Durable n) = n
acknowledges reply = 0

-- the events of entries
abbrev pub events_of : List Entry → List Event
events_of entries = map (λ (entry : Entry). entry.event) entries

-- On any disk: what a core becomes by the events of these entries, and that it is so now.
pub record Reaches (c : Core) (since : List Entry) (is_now : Core → Type 0) : Type 0 where
  pub core : Core
  pub run : IsRun c (events_of since) core
  pub is : is_now core

-- an entry that reports neither a fault of the disk nor a stop
abbrev pub IsUncut : Entry → Type 0
IsUncut entry = reply_device entry.reply ≡ Ok tt

-- Calls of a heap, which may have continued after an error, keep the disk's size and what it was made of. No count of it fell, and a modelled one
-- was not restarted.
pub record StaysDisk {D : Type 0} (g : Ghosts D) (old new : D) : Type 0 where
  pub extent : g.extent new ≡ g.extent old
  pub origin : g.origin new ≡ g.origin old
  pub faults_kept : g.faults old ≤ g.faults new
  pub stops_kept : g.stops old ≤ g.stops new
  pub restarts : IsTrue g.tells → g.restarts new ≡ g.restarts old

module _ {D : Type 0} {g : Ghosts D} where
  -- On a modelled disk: likewise, and each step says what it left on the disk, and what a crash left at each moment of it.
  pub record ReachesOn (s : Super) (c : Core) (since : List Entry) (first now : Heap D g) : Type 0 where
    pub core : Core
    pub steps : AreSteps (HeapStep g) c (heap_disk first) (events_of since) core (heap_disk now)
    pub is : IsHeap s core now

  -- an entry is `diskfault` or `stopped` only if the disk's count of that rose between these two heaps
  abbrev pub IsCaused : Heap D g → Heap D g → Entry → Type 0
  IsCaused first now entry = IsCausedBy g (heap_disk first) (heap_disk now) entry.reply

  -- What a heap has become by events, one after another.
  pub record Follows (first now : Heap D g) : Type 0 where
    pub since : List Entry
    pub history : history_of now ≡ history_of first ++ since
    pub sessions : AllByRecursion IsOfSession (events_of since)
    pub disk : StaysDisk g (heap_disk first) (heap_disk now)
    pub causes : AllByRecursion (IsCaused first now) since
    -- and where none of them is, both counts are as they were: no fault is ignored
    pub still : AllByRecursion IsUncut since → (g.faults (heap_disk now) ≡ g.faults (heap_disk first)) × (g.stops (heap_disk now) ≡ g.stops (heap_disk first))
    pub core : (c : Core) → IsCore c first → IsReached c → Reaches c since (λ d. IsCore d now)
    pub holds : IsTrue g.tells → (s : Super) (c : Core) → IsHeap s c first → IsReached c → ReachesOn s c since first now
