-- What an open heap does on a disk whose record its host is told.
use Rattle.std.specs.Prelude.{◌≡◌, ℕ, Bool, [], ◌∷◌, ◌++◌, Result, Ok, IfOk, IsOk, OnErr, MatchResult, None, true}
use Rattle.std.specs.declared.alloc.AllocError.{AllocError}
use Rattle.disk_model.specs.Disk.{Only}
use Rattle.disk_model.specs.Keeps.{KeepsDisk}
use Rattle.disk_model.specs.Moments.{LeavesOnly}
use Rattle.disk_model.specs.declared.disk.Disk.{Ghosts}
use Rattle.gate_slot.specs.Passing.{Passes}
use Rattle.graph_model.specs.Graph.{Graph}
use Rattle.graph_model.specs.History.{account}
use Rattle.graph_model.specs.declared.event.Event.{Event}
use Rattle.graph_model.specs.declared.reply.Reply.{Reply}
use Rattle.graph_words.specs.Places.{Places}
use Rattle.heap_core.specs.declared.in_memory.HeapCore.{HeapCore}
use Rattle.heap_core.specs.Causes.{step_device, reply_device}
use Rattle.heap_core.specs.Collects.{CollectsAsTold}
use Rattle.heap_core.specs.Ending.{EndsAsTold, TakesNoMemory}
use Rattle.heap_core.specs.HeapState.{entry_of, entries_of}
use Rattle.heap_core.specs.Refinement.{IsCoreOn, IsHeapOn, IsLeftByStep}
use Rattle.core_laws.specs.Valid.{IsReached}
use Rattle.heap_model.specs.Core.{Core, IsStep, calls, cut}
use Rattle.heap_model.specs.Image.{StoredHeap, IsShapedLog, IsShaped, IsLegal}
use Rattle.heap_model.specs.Opening.{opened, IsFound}
use Rattle.heap_recovery.specs.Opens.{OpensImage}
use Rattle.limit_laws.specs.Room.{IsEnd}
use Rattle.image_plan.specs.declared.superblock.Super.{Super}
use Rattle.page_store.specs.Gates.{open_gates}

module _ {D : Type 0} (g : Ghosts D) where
  -- It makes an event: a step of the core that it is, which a modelled disk then holds; where memory was refused it is that core still. At each moment
  -- of it a crash leaves a commit prefix with all that was acknowledged or forced before.
  pub record MakesStep (old : HeapCore) (before : D) (event : Event) (result : Result Reply AllocError) (new : HeapCore) (now : D) : Type 0 where
    -- on every disk, and with no core at hand: an answer adds the entry of this event and reply, and refused memory adds none
    pub recorded : MatchResult result (λ reply. entries_of new.history ≡ entries_of old.history ++ record { event = event; reply = reply } ∷ []) (λ refused. entries_of new.history ≡ entries_of old.history)
    pub core : (c : Core) → IsCoreOn g c old before → IsReached c → IfOk result (λ reply. (d : Core) × IsStep c event reply d × IsCoreOn g d new now)
    pub kept : (c : Core) → IsCoreOn g c old before → OnErr result (IsCoreOn g c new now)
    pub untouched : OnErr result (now ≡ before)
    pub holds : (s : Super) (c : Core) → IsHeapOn g s c old before → IsReached c → IfOk result (λ reply. (d : Core) × IsStep c event reply d × IsHeapOn g s d new now)
    pub moments : (s : Super) (c : Core) → IsHeapOn g s c old before → IsReached c → LeavesOnly g.moment g.left_since before now (IsLeftByStep (cut c event) (g.bytes before))
    -- the disk is the same one, and an answer that it failed has its cause there
    pub disk : KeepsDisk g before now (step_device result)
    -- no more writes and syncs than the event takes, and for one that takes none no call at all
    pub passes : (c : Core) → IsCoreOn g c old before → IsReached c → IfOk result (λ reply. Passes (calls c event) (g.passed before) (g.passed now) (reply_device reply))
    pub still : (c : Core) → IsCoreOn g c old before → IsReached c → calls c event ≡ 0 → now ≡ before
    pub collects : (c : Core) → IsCoreOn g c old before → IsReached c → IfOk result (λ reply. CollectsAsTold c event reply)
    -- a transaction can always be ended, and what is sealed be forced: neither room nor memory lacks for that
    pub ends : (c : Core) → IsCoreOn g c old before → IsReached c → IsEnd c event → IfOk result (λ reply. EndsAsTold c event reply)
    pub memory : (c : Core) → IsCoreOn g c old before → IsReached c → (account c.history).failed ≡ None → TakesNoMemory c event → IsOk result

  -- It is the same heap, on a disk that was made to forget what it told.
  pub record StaysHeap (old : HeapCore) (before : D) (new : HeapCore) (now : D) : Type 0 where
    pub core : (c : Core) → IsCoreOn g c old before → IsCoreOn g c new now
    pub holds : (s : Super) (c : Core) → IsHeapOn g s c old before → IsHeapOn g s c new now

  -- It is the core that a shaped log encodes beside stored pages, in frames of which this many gates are open, whatever graph stands in it.
  abbrev pub IsFoundOn : (stored : StoredHeap) → IsShapedLog stored → (ℕ → ℕ) → HeapCore → D → Type 0
  IsFoundOn stored shaped gates heap disk = (born : Bool) (places : Places) (graph : Graph) → IsFound stored shaped born places graph → IsCoreOn g (opened stored gates born places graph) heap disk

  -- It was opened on a disk, as a heap is: of a legal image it is the core of each graph that is found in it, which its disk then holds. What is opened
  -- is shaped, and of a shaped image it is the core that the image encodes.
  pub record WasOpened (disk : D) (new : HeapCore) (now : D) : Type 0 where
    pub image : OpensImage g disk now (Ok tt)
    pub unfailed : entry_of new.failed ≡ None
    pub sound : (stored : StoredHeap) × (shaped : IsShaped stored (g.bytes disk)) × IsFoundOn stored shaped.log (open_gates stored.super.log_bytes (g.bytes disk)) new now
    pub found : (stored : StoredHeap) → (shaped : IsShaped stored (g.bytes disk)) → IsFoundOn stored shaped.log (open_gates stored.super.log_bytes (g.bytes disk)) new now
    pub holds : (stored : StoredHeap) → (legal : IsLegal stored (g.bytes disk)) → Only (g.bytes disk) (g.may_leave disk) → (places : Places) (graph : Graph) → IsFound stored legal.log.shaped true places graph
        → IsHeapOn g stored.super (opened stored (open_gates stored.super.log_bytes (g.bytes disk)) true places graph) new now
