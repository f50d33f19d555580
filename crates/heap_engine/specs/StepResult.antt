-- What the disk answered in an event, by the outcome of the event.
use Rattle.std.specs.Prelude.{◌≡◌, ℕ, Result, Ok, Err}
use Rattle.disk_model.specs.declared.disk.DiskError.{DiskError}
use Rattle.gate_slot.specs.Passing.{Passes}
use Rattle.disk_model.specs.declared.disk.DiskError.TheVariants as device
use Rattle.graph_model.specs.declared.reply.Refusal.TheVariants.{DiskFault, Stopped}
use Rattle.graph_model.specs.declared.reply.Reply.{Reply}
use Rattle.graph_model.specs.declared.reply.Reply.TheVariants.{Refused}
use Rattle.heap_engine.specs.declared.step_error.StepError.{StepError}
use Rattle.heap_engine.specs.declared.step_error.StepError.TheVariants.{NoMemory, Disk}

-- what a reply says of the disk
abbrev pub reply_device : Reply → Result (Unit {0}) DiskError
reply_device (Refused DiskFault) = Err device.Failed
reply_device (Refused Stopped) = Err device.Stopped
reply_device reply = Ok tt

-- what the disk answered: it is not called if memory runs out
abbrev pub engine_device : Result Reply StepError → Result (Unit {0}) DiskError
engine_device (Ok reply) = Ok tt
engine_device (Err NoMemory) = Ok tt
engine_device (Err (Disk e)) = Err e

-- The writes and syncs of an event: n if it is answered, no more if the disk cut it short, and none if memory runs out.
abbrev pub StepPasses : ℕ → ℕ → ℕ → Result Reply StepError → Type 0
StepPasses n before now (Ok reply) = Passes n before now (Ok tt)
StepPasses n before now (Err NoMemory) = now ≡ before
StepPasses n before now (Err (Disk e)) = Passes n before now (Err e)
