-- A heap in the middle of a round.
use Rattle.std.specs.Prelude.{ℕ, ◌≤◌, List}
use Rattle.disk_model.specs.declared.disk.Disk.{Ghosts}
use Rattle.graph_model.specs.declared.event.Event.{Event}
use Rattle.graph_model.specs.Graph.{Graph}
use Rattle.image_plan.specs.declared.superblock.Super.{Super}
use Rattle.heap_model.specs.Core.{Core}
use Rattle.heap_core.specs.declared.heap.Heap.{Heap}
use Rattle.heap_core.specs.HeapState.{heap_disk}
use Rattle.heap_core.specs.Refinement.{IsHeap}
use Rattle.library_tests.specs.Rounds.{IsGoing, Unharmed}

module _ {D : Type 0} (ghosts : Ghosts D) where
  -- The counts of a disk's faults and stops did not fall.
  pub record KeepsCounts (old new : D) : Type 0 where
    pub faults : ghosts.faults old ≤ ghosts.faults new
    pub stops : ghosts.stops old ≤ ghosts.stops new

module _ {D : Type 0} {ghosts : Ghosts D} where
  -- A heap that was opened on a disk, and on which these events were made.
  pub record HasGone (g : Graph) (k : ℕ) (events : List Event) (disk : D) (heap : Heap D ghosts) : Type 0 where
    pub super : Super
    pub core : Core
    pub going : IsGoing g k (ghosts.bytes disk) events (Unharmed ghosts disk (heap_disk heap)) core
    pub is : IsHeap super core heap
