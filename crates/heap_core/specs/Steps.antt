-- A run of steps on a disk, each with the core and the disk before and after it.
use Rattle.std.specs.Prelude.{◌≡◌, ℕ, List, [], ◌∷◌}
use Rattle.disk_model.specs.declared.disk.Disk.{Ghosts}
use Rattle.disk_model.specs.Keeps.{KeepsDisk}
use Rattle.disk_model.specs.Moments.{LeavesOnly}
use Rattle.gate_slot.specs.Passing.{Passes}
use Rattle.graph_model.specs.declared.event.Event.{Event}
use Rattle.graph_model.specs.declared.reply.Reply.{Reply}
use Rattle.heap_core.specs.Causes.{reply_device}
use Rattle.heap_core.specs.Refinement.{IsLeftByStep}
use Rattle.heap_model.specs.Core.{Core, IsStep, calls, cut}
use Rattle.heap_model.specs.CoreCrash.{IsCommitPrefix}

-- A step of a heap on its own disk.
pub record HeapStep {D : Type 0} (g : Ghosts D) (c : Core) (before : D) (event : Event) (d : Core) (after : D) : Type 0 where
  pub reply : Reply
  pub step : IsStep c event reply d
  -- at each moment of it a crash left a commit prefix with all that were acknowledged or forced before it, where a seal that the disk may cut short is in
  -- doubt, and each byte past the plan as it was
  pub moments : LeavesOnly g.moment g.left_since before after (IsLeftByStep (cut c event) (g.bytes before))
  -- once it was answered, also those that its answer acknowledged, or that it forced
  pub kept : (image : List ℕ) → g.may_leave after image → IsCommitPrefix d image
  pub passes : Passes (calls c event) (g.passed before) (g.passed after) (reply_device reply)
  pub disk : KeepsDisk g before after (reply_device reply)

-- These events were made by such steps, one after another: each begins with the core and the disk that the one before it left.
abbrev pub AreSteps : {D : Type 0} (step : Core → D → Event → Core → D → Type 0) → Core → D → List Event → Core → D → Type 0
AreSteps step c old [] d new = (d ≡ c) × (new ≡ old)
AreSteps {D} step c old (event ∷ events) d new = (mid : Core) × (between : D) × step c old event mid between × AreSteps step mid between events d new
