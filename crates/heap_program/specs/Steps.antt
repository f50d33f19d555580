-- The steps of a run on a disk, which may stop by itself.
use Rattle.std.specs.Prelude.{◌≡◌, ◌≢◌, ℕ, ◌+◌, ◌≤◌, List, Option, None, Some}
use Rattle.counts.specs.Count.{Rose, counted}
use Rattle.disk_model.specs.declared.disk.Disk.{Ghosts}
use Rattle.disk_model.specs.Disk.{HasCause}
use Rattle.disk_model.specs.Moments.{LeavesOnly}
use Rattle.gate_slot.specs.Passing.{Passes}
use Rattle.graph_model.specs.declared.event.Event.{Event}
use Rattle.graph_model.specs.declared.reply.Refusal.TheVariants.{DiskFault, Stopped}
use Rattle.graph_model.specs.declared.reply.Reply.{Reply}
use Rattle.graph_model.specs.declared.reply.Reply.TheVariants.{Refused}
use Rattle.heap_core.specs.Causes.{reply_device}
use Rattle.heap_core.specs.Refinement.{IsLeftByStep}
use Rattle.heap_model.specs.Core.{Core, IsStep, calls, cut}
use Rattle.heap_model.specs.CoreCrash.{IsCommitPrefix}
use Rattle.heap_program.specs.Causes.{DiskRose, Unharmed}

-- Why a step was cut short on a disk that is to stop: it is answered `diskfault` if the disk's faults and stops together rose in that step,
-- and not otherwise; so no call of an event that is answered `stopped` failed in the disk itself. It is answered `stopped`, if the disk doesn't stop by
-- itself, only if that had let n writes and syncs through since the start.
pub record StopCause {D : Type 0} (g : Ghosts D) (n : ℕ) (start before after : D) (reply : Reply) : Type 0 where
  pub kept : g.faults before + g.stops before ≤ g.faults after + g.stops after
  pub failed : reply ≡ Refused DiskFault → DiskRose (g.faults before) (g.stops before) (g.faults after) (g.stops after)
  pub still : reply ≢ Refused DiskFault → g.faults after + g.stops after ≡ g.faults before + g.stops before
  pub stopped : reply ≡ Refused Stopped → ¬ Rose (g.stops start) (g.stops after) → g.passed after ≡ counted n (g.passed start)

-- Why a step was cut short. If no stop was asked, it is answered `diskfault` if the disk's faults rose in that step, `stopped` if its
-- stops did, and neither otherwise.
abbrev pub StepCause : {D : Type 0} (g : Ghosts D) → Option ℕ → D → D → D → Reply → Type 0
StepCause g None start before after reply = HasCause (g.faults before) (g.faults after) (g.stops before) (g.stops after) (reply_device reply)
StepCause g (Some n) start before after reply = StopCause g n start before after reply

-- An event was answered in a run since start, which led from one core and disk to others.
pub record Step {D : Type 0} (g : Ghosts D) (stop : Option ℕ) (start : D) (c : Core) (before : D) (event : Event) (d : Core) (after : D) : Type 0 where
  pub reply : Reply
  pub step : IsStep c event reply d
  pub cause : StepCause g stop start before after reply
  -- at each moment of it a crash left a commit prefix with all that were acknowledged or forced before it, where a seal that the disk may cut short is in
  -- doubt, and each byte past the plan as it was
  pub moments : LeavesOnly g.moment g.left_since before after (IsLeftByStep (cut c event) (g.bytes before))
  -- once it was answered, also those that its answer acknowledged, or that it forced
  pub kept : (image : List ℕ) → g.may_leave after image → IsCommitPrefix d image
  -- without a fault by then it made the writes and syncs of the core's step, or fewer if it was stopped
  pub passes : Unharmed g start after → Passes (calls c event) (g.passed before) (g.passed after) (reply_device reply)
  pub restarts : g.restarts after ≡ g.restarts before
