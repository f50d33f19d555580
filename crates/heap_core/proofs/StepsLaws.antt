-- Laws of the steps of a heap on its disk.
use Rattle.std.proofs.Common.{ℕ, List, [], ◌∷◌, ◌++◌, refl, subst}
use Rattle.disk_model.specs.declared.disk.Disk.{Ghosts}
use Rattle.disk_model.specs.Keeps.{KeepsDisk}
use Rattle.disk_model.specs.Moments.{LeavesOnly}
use Rattle.gate_slot.specs.Passing.{Passes}
use Rattle.graph_model.specs.declared.event.Event.{Event}
use Rattle.graph_model.specs.declared.reply.Reply.{Reply}
use Rattle.graph_model.specs.History.{IsOfSession}
use Rattle.image_plan.specs.declared.superblock.Super.{Super}
use Rattle.heap_core.proofs.CrashLaws.{heap_keeps}
use Rattle.heap_core.specs.Causes.{reply_device}
use Rattle.heap_core.specs.Refinement.{IsLeftByStep, IsHeap}
use Rattle.heap_core.specs.Steps.{HeapStep, AreSteps}
use Rattle.heap_core.specs.declared.heap.Heap.{Heap}
use Rattle.heap_model.specs.Core.{Core, IsStep, calls, cut}
use Rattle.heap_model.specs.CoreCrash.{IsCommitPrefix}
pub use Rattle.heap_engine.proofs.EventCore.{cut_behind}
use Rattle.core_laws.proofs.Run.Events.{step_reached}
use Rattle.core_laws.specs.Valid.{IsReached}

-- what a crash leaves of a heap
pub heap_leaves : {D : Type 0} {g : Ghosts D} (s : Super) (c : Core) (heap : Heap D g) → IsHeap s c heap → IsReached c → (image : List ℕ) → g.may_leave heap.disk image → IsCommitPrefix c image
heap_leaves {g = g} s c heap is reached = heap_keeps s c (g.bytes heap.disk) (g.may_leave heap.disk) is.disk reached.sound

-- One event, by what a heap says of its step.
pub one_steps : {D : Type 0} {g : Ghosts D} (s : Super) (c d : Core) (event : Event) (reply : Reply) (old new : Heap D g) → IsReached c → IsOfSession event → IsStep c event reply d → KeepsDisk g old.disk new.disk (reply_device reply)
    → Passes (calls c event) (g.passed old.disk) (g.passed new.disk) (reply_device reply) → LeavesOnly g.moment g.left_since old.disk new.disk (IsLeftByStep (cut c event) (g.bytes old.disk)) → IsHeap s d new
    → AreSteps (HeapStep g) c old.disk (event ∷ []) d new.disk
one_steps {D} {g} s c d event reply old new reached session step keeps passes moments heap =
    let next = step_reached c d event reply reached session step in
    let made : HeapStep g c old.disk event d new.disk =
    record { reply = reply; step = step; moments = moments; kept = heap_leaves s d new heap next; passes = passes; disk = keeps } in
    (d, new.disk, made, (refl, refl))

-- Steps after steps.
pub steps_append : {D : Type 0} (step : Core → D → Event → Core → D → Type 0) (c mid d : Core) (old between new : D) (before behind : List Event) → AreSteps step c old before mid between → AreSteps step mid between behind d new
    → AreSteps step c old (before ++ behind) d new
steps_append {D} step c mid d old between new [] behind first second =
    let P : Core → D → Type 0 = λ x disk. AreSteps step x disk behind d new in
    subst (λ (x : Core). P x old) first.0 (subst (λ disk. P mid disk) first.1 second)
steps_append step c mid d old between new (event ∷ before) behind first second =
    (first.0, first.1, first.2, steps_append step first.0 mid d first.1 between new before behind first.3 second)
