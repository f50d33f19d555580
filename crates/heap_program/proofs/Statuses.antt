-- How the ways in which a play may end become those of a run.
use Rattle.std.proofs.Common.{◌≡◌, ◌≢◌, ◌⊎◌, inl, inr, ℕ, List, ◌++◌, None, Some, Result, Ok, Err, refl}
use Rattle.counts.specs.Count.{Rose}
use Rattle.heap_program.specs.declared.output.WriteError.{WriteError}
use Rattle.heap_program.specs.declared.output.WriteError.TheVariants as writing
use Rattle.heap_program.specs.declared.play.Halt.{Halt}
use Rattle.heap_program.specs.declared.play.Halt.TheVariants as halt
use Rattle.heap_program.specs.declared.status.Status.{Status}
use Rattle.heap_program.specs.declared.status.Status.TheVariants.{Done, WriteFault}
use Rattle.disk_model.specs.declared.disk.DiskError.TheVariants as device
use Rattle.disk_model.specs.Disk.{HasCause}
use Rattle.heap_program.specs.Causes.{DiskRose}
use Rattle.heap_program.proofs.Causes.{disk_rose}
use Rattle.heap_core.specs.Causes.{recovery_error}
use Rattle.heap_core.specs.declared.errors.OpenError.{OpenError}
use Rattle.heap_core.specs.declared.errors.OpenError.TheVariants as opening
use Rattle.heap_program.specs.Headline.{IsEndOfPlay, IsOfDisk}
use Rattle.heap_program.specs.Output.{WroteText, early_end, status_after}
use Rattle.heap_program.specs.StatusOf.{open_status, write_status, halt_status}
use Rattle.heap_recovery.specs.Recovered.{IsFromOutside}
use Rattle.heap_recovery.specs.Causes.{error_device}

-- an output error ends a play
write_end : (e : WriteError) → IsEndOfPlay (write_status e)
write_end writing.NoMemory = tt
write_end writing.SinkFailed = tt

write_not_done : (e : WriteError) → write_status e ≡ Done → ⊥
write_not_done writing.NoMemory is = cc
write_not_done writing.SinkFailed is = cc

-- a play ends after its output, whether it was written or not
pub written_end : (r : Result (Unit {0}) WriteError) → IsEndOfPlay (status_after r)
written_end (Ok done) = tt
written_end (Err e) = write_end e

-- and not by the disk or its image
pub written_sound : (r : Result (Unit {0}) WriteError) → IsOfDisk (status_after r) → ⊥
written_sound (Ok done) is = is
written_sound (Err writing.NoMemory) is = is
written_sound (Err writing.SinkFailed) is = is

-- where all was done, all was written
pub wrote_all : (r : Result (Unit {0}) WriteError) (before text after : List ℕ) → status_after r ≡ Done → WroteText r before text after → after ≡ before ++ text
wrote_all (Ok done) before text after is wrote = wrote
wrote_all (Err e) before text after is wrote = absurd (write_not_done e is)

-- a play that halts ends so, and isn't done
pub halt_end : (h : Halt) → IsEndOfPlay (halt_status h)
halt_end halt.NoMemory = tt
halt_end halt.WriteFault = tt
halt_end halt.DiskFault = tt
halt_end halt.Stopped = tt

pub halt_not_done : (h : Halt) → halt_status h ≡ Done → ⊥
halt_not_done halt.NoMemory is = cc
halt_not_done halt.WriteFault is = cc
halt_not_done halt.DiskFault is = cc
halt_not_done halt.Stopped is = cc

-- a run that is to stop continues if all was played or the disk stopped
pub early_none : (r : Result (Unit {0}) Halt) → early_end r ≡ None → (r ≡ Ok tt) ⊎ (r ≡ Err halt.Stopped)
early_none (Ok done) is = inl refl
early_none (Err halt.Stopped) is = inr refl
early_none (Err halt.NoMemory) is = cc
early_none (Err halt.WriteFault) is = cc
early_none (Err halt.DiskFault) is = cc

-- and ends where it halted otherwise
pub early_some : (r : Result (Unit {0}) Halt) (s : Status) → early_end r ≡ Some s → (h : Halt) × (r ≡ Err h) × (h ≢ halt.Stopped) × (s ≡ halt_status h)
early_some (Ok done) s is = cc
early_some (Err halt.Stopped) s is = cc
early_some (Err halt.NoMemory) s is = (halt.NoMemory, refl, (λ e. cc), cc)
early_some (Err halt.WriteFault) s is = (halt.WriteFault, refl, (λ e. cc), cc)
early_some (Err halt.DiskFault) s is = (halt.DiskFault, refl, (λ e. cc), cc)

-- an opening that the outside hinders ends a play
pub open_end : (e : OpenError) → IsFromOutside (recovery_error e) → IsEndOfPlay (open_status e)
open_end opening.NoMemory outside = tt
open_end opening.NotHeap outside = absurd outside
open_end (opening.Damaged at) outside = absurd outside
open_end opening.DiskFault outside = tt
open_end opening.Stopped outside = tt

-- and isn't done
pub open_not_done : (e : OpenError) → open_status e ≡ Done → ⊥
open_not_done opening.NoMemory is = cc
open_not_done opening.NotHeap is = cc
open_not_done (opening.Damaged at) is = cc
open_not_done opening.DiskFault is = cc
open_not_done opening.Stopped is = cc

-- and is not refused by its output
pub open_not_refused : (e : OpenError) → open_status e ≡ WriteFault → ⊥
open_not_refused opening.NoMemory is = cc
open_not_refused opening.NotHeap is = cc
open_not_refused (opening.Damaged at) is = cc
open_not_refused opening.DiskFault is = cc
open_not_refused opening.Stopped is = cc

-- one that was refused by the disk was so since a count of the disk rose
pub open_harm : (f s f' s' : ℕ) (e : OpenError) → IsFromOutside (recovery_error e) → e ≢ opening.NoMemory → HasCause {T = Unit {0}} f f' s s' (error_device (recovery_error e)) → DiskRose f s f' s'
open_harm f s f' s' opening.NoMemory outside other cause = absurd (other refl)
open_harm f s f' s' opening.NotHeap outside other cause = absurd outside
open_harm f s f' s' (opening.Damaged at) outside other cause = absurd outside
open_harm f s f' s' opening.DiskFault outside other cause = disk_rose f s f' s' (error_device (recovery_error opening.DiskFault)) device.Failed cause refl
open_harm f s f' s' opening.Stopped outside other cause = disk_rose f s f' s' (error_device (recovery_error opening.Stopped)) device.Stopped cause refl

-- and so its faults did, if it had not stopped
pub open_fault : (f f' s s' : ℕ) (e : OpenError) → IsFromOutside (recovery_error e) → e ≢ opening.NoMemory → e ≢ opening.Stopped → HasCause {T = Unit {0}} f f' s s' (error_device (recovery_error e)) → Rose f f'
open_fault f f' s s' opening.NoMemory outside some other cause = absurd (some refl)
open_fault f f' s s' opening.NotHeap outside some other cause = absurd outside
open_fault f f' s s' (opening.Damaged at) outside some other cause = absurd outside
open_fault f f' s s' opening.DiskFault outside some other cause = cause.failed refl
open_fault f f' s s' opening.Stopped outside some other cause = absurd (other refl)
