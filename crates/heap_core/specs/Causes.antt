-- What the disk answered in a call of a heap, and what an error says of it.
use Rattle.std.specs.Prelude.{◌≡◌, ℕ, ◌≤◌, Result, Ok, Err}
use Rattle.std.specs.declared.alloc.AllocError.{AllocError}
use Rattle.counts.specs.Count.{Rose}
use Rattle.disk_model.specs.declared.disk.Disk.{Ghosts}
use Rattle.disk_model.specs.declared.disk.DiskError.{DiskError}
use Rattle.disk_model.specs.declared.disk.DiskError.TheVariants as device
use Rattle.graph_model.specs.declared.reply.Reply.{Reply}
use Rattle.graph_print.specs.declared.print_error.PrintError.{PrintError}
use Rattle.graph_print.specs.declared.print_error.PrintError.TheVariants as printing
pub use Rattle.heap_engine.specs.StepResult.{reply_device}
use Rattle.heap_recovery.specs.declared.error.RecoverError.{RecoverError}
use Rattle.heap_recovery.specs.declared.error.RecoverError.TheVariants as recovery
use Rattle.heap_core.specs.declared.errors.GraphError.{GraphError}
use Rattle.heap_core.specs.declared.errors.GraphError.TheVariants as graphs
use Rattle.heap_core.specs.declared.errors.OpenError.{OpenError}
use Rattle.heap_core.specs.declared.errors.OpenError.TheVariants as opening

-- what the disk answered in a step
abbrev pub step_device : Result Reply AllocError → Result (Unit {0}) DiskError
step_device (Ok reply) = reply_device reply
step_device (Err e) = Ok tt

-- Over calls that may have continued after an error, or answered something else after it: neither count fell, and an error is returned only if that
-- error's count rose.
pub record WasCaused {T : Type 0} (faults faults' stops stops' : ℕ) (result : Result T DiskError) : Type 0 where
  pub faults_kept : faults ≤ faults'
  pub stops_kept : stops ≤ stops'
  pub failed : result ≡ Err device.Failed → Rose faults faults'
  pub stopped : result ≡ Err device.Stopped → Rose stops stops'

-- so is the disk's error in a reply
abbrev pub IsCausedBy : {D : Type 0} (g : Ghosts D) → D → D → Reply → Type 0
IsCausedBy g old new reply = WasCaused (g.faults old) (g.faults new) (g.stops old) (g.stops new) (reply_device reply)

-- the error of a recovery that an opening reports by each of its own
abbrev pub recovery_error : OpenError → RecoverError
recovery_error opening.NoMemory = recovery.NoMemory
recovery_error opening.NotHeap = recovery.NotHeap
recovery_error (opening.Damaged at) = recovery.Damaged at
recovery_error opening.DiskFault = recovery.Disk device.Failed
recovery_error opening.Stopped = recovery.Disk device.Stopped

-- how a recovery ended whose heap, or error, an opening returns
abbrev pub opened_outcome : {H D : Type 0} → Result H (OpenError × D) → Result (Unit {0}) RecoverError
opened_outcome (Ok heap) = Ok tt
opened_outcome (Err e) = Err (recovery_error e.0)

-- the error of a graph's text for each error of a print
abbrev pub graph_error : PrintError → GraphError
graph_error printing.NoMemory = graphs.NoMemory
graph_error (printing.Disk device.Failed) = graphs.DiskFault
graph_error (printing.Disk device.Stopped) = graphs.Stopped
graph_error (printing.Damaged address) = graphs.Damaged address
