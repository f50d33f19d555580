-- When an open heap is a core.
use Rattle.std.specs.Prelude.{◌≡◌, ◌≢◌, ◌↔◌, Bool, IsTrue, ℕ, List, [], length, is_some, Option, None, MatchOption}
use Rattle.disk_model.specs.declared.disk.Disk.{Ghosts}
use Rattle.graph_model.specs.Graph.{Graph}
use Rattle.graph_model.specs.History.{account}
use Rattle.graph_words.specs.Places.{Places}
use Rattle.image_plan.specs.declared.superblock.Super.{Super}
use Rattle.heap_core.specs.declared.in_memory.Failure.{Failure}
use Rattle.heap_core.specs.declared.heap.Heap.{Heap}
use Rattle.heap_core.specs.declared.in_memory.HeapCore.{HeapCore}
use Rattle.heap_core.specs.HeapState.{entry_of}
use Rattle.heap_engine.specs.declared.engine.Engine.{Engine}
use Rattle.heap_engine.specs.EngineState.{memory}
use Rattle.heap_engine.specs.Refinement.{IsEngine, OnDisk}
pub use Rattle.heap_engine.specs.Refinement.{SameBehind, IsLeftByStep}
use Rattle.heap_memory.specs.Memory.{own}
use Rattle.heap_model.specs.Core.{Core}
use Rattle.memory_laws.specs.CoreMemory.{IsMemory}
use Rattle.heap_model.specs.Image.{StoredHeap, IsShapedLog}
use Rattle.heap_model.specs.Opening.{opened, IsFound}

-- What a heap remembers of a core, even after the disk stopped or failed: at which entry that was, whether records were pending before it, how
-- many transactions were sealed, and which sessions have one.
pub record Remembers (c : Core) (e : Engine) (failed : Option Failure) : Type 0 where
  pub failure : entry_of failed ≡ (account c.history).failed
  pub pending : MatchOption failed (Unit {0}) (λ failure. IsTrue failure.pending ↔ (c.pending ≢ []))
  pub sealed : e.sealed ≡ length (account c.history).sealed
  pub active : (s : ℕ) → is_some (own (memory e) s) ≡ is_some ((account c.history).active s)

-- The disk holds a core, until it stops or fails at an entry. From then on a crash leaves a commit prefix of the core, and each byte past the plan as
-- a read gives it. The names of its objects are their births.
pub record DiskHolds (s : Super) (c : Core) (image : List ℕ) (may_leave : List ℕ → Type 0) : Type 0 where
  pub born : IsTrue c.born
  pub unfailed : (account c.history).failed ≡ None → OnDisk s c image may_leave
  pub failed : (account c.history).failed ≢ None → (left : List ℕ) → may_leave left → IsLeftByStep c image left

-- What an open heap keeps is a core: its history, the commits at the opening, at which entry the disk stopped or failed, and until then what its engine
-- is to be.
pub record IsCoreWith (engine_is : Engine → Type 0) (c : Core) (heap : HeapCore) : Type 0 where
  pub history : heap.history.entries ≡ c.history
  pub before : heap.before ≡ c.before
  pub memory : Remembers c heap.engine heap.failed
  pub engine : heap.failed ≡ None → engine_is heap.engine

-- It is a core in memory, whatever its disk holds.
abbrev pub IsCoreInMemory : Core → HeapCore → Type 0
IsCoreInMemory c heap = IsCoreWith (λ e. IsMemory (memory e) (account c.history) c) c heap

module _ {D : Type 0} (g : Ghosts D) where
  -- With its disk it is that core, on every disk.
  abbrev pub IsCoreOn : Core → HeapCore → D → Type 0
  IsCoreOn c heap disk = IsCoreWith (λ e. IsEngine g c e disk) c heap

  -- With a modelled disk it is a core, in memory and on the disk, where births name its objects.
  pub record IsHeapOn (s : Super) (c : Core) (heap : HeapCore) (device : D) : Type 0 where
    pub core : IsCoreOn c heap device
    pub disk : DiskHolds s c (g.bytes device) (g.may_leave device)

module _ {D : Type 0} {g : Ghosts D} where
  -- An open heap is a core, on every disk.
  abbrev pub IsCore : Core → Heap D g → Type 0
  IsCore c heap = IsCoreOn g c heap.core heap.disk

  -- An open heap is the core that a shaped log encodes beside stored pages, in frames of which this many gates are open, whatever graph stands in it,
  -- under whatever names.
  abbrev pub IsCoreOfLog : (stored : StoredHeap) → IsShapedLog stored → (ℕ → ℕ) → Heap D g → Type 0
  IsCoreOfLog stored shaped gates heap = (born : Bool) (places : Places) (graph : Graph) → IsFound stored shaped born places graph → IsCore (opened stored gates born places graph) heap

  -- A heap on a modelled disk is a core, in memory and on the disk.
  abbrev pub IsHeap : Super → Core → Heap D g → Type 0
  IsHeap s c heap = IsHeapOn g s c heap.core heap.disk
