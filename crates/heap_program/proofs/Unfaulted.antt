-- Which ends of a run leave the disk's counts as they were.
use Rattle.std.proofs.Common.{◌≡◌, ◌≢◌, ◌∙◌, ◌+◌, ◌≤◌, ℕ, Result, Ok, refl, subst, arith}
use Rattle.disk_model.specs.declared.disk.Disk.{Ghosts}
use Rattle.disk_model.specs.declared.disk.DiskError.{DiskError}
use Rattle.disk_model.specs.Disk.{HasCause}
use Rattle.disk_model.specs.Keeps.{KeepsDisk}
use Rattle.heap_core.specs.Causes.{recovery_error}
use Rattle.heap_core.specs.GivenBack.{format_device}
use Rattle.heap_core.specs.declared.errors.FormatError.{FormatError}
use Rattle.heap_core.specs.declared.errors.FormatError.TheVariants as format
use Rattle.heap_core.specs.declared.errors.OpenError.{OpenError}
use Rattle.heap_core.specs.declared.errors.OpenError.TheVariants as opening
use Rattle.heap_program.specs.declared.play.Halt.{Halt}
use Rattle.heap_program.specs.declared.play.Halt.TheVariants as halt
use Rattle.heap_program.specs.declared.status.Status.{Status}
use Rattle.heap_program.specs.declared.status.Status.TheVariants as status
use Rattle.heap_program.specs.Causes.{CountsStay, IsFaultless, IsFaultlessLoad}
use Rattle.heap_program.specs.Headline.{IsEndOfPlay}
use Rattle.heap_program.specs.StatusOf.{format_status, open_status, halt_status}
use Rattle.heap_recovery.specs.Causes.{error_device}

-- a play that halts is no end without a fault
pub halt_faulty : (h : Halt) → IsFaultless (halt_status h) → ⊥
halt_faulty halt.NoMemory none = none
halt_faulty halt.WriteFault none = none
halt_faulty halt.DiskFault none = none
halt_faulty halt.Stopped none = none

-- nor is the disk's own fault
pub not_disk : (s : Status) → IsFaultless s → s ≢ status.DiskFault
not_disk s none is = subst IsFaultless is none

-- of a load likewise
pub load_not_disk : (s : Status) → IsFaultlessLoad s → s ≢ status.DiskFault
load_not_disk s none is = subst IsFaultlessLoad is none

-- a load that halts without a fault of the disk has a line that was not written
pub load_halt : (h : Halt) → IsFaultlessLoad (halt_status h) → halt_status h ≡ status.WriteFault
load_halt halt.NoMemory none = absurd none
load_halt halt.WriteFault none = refl
load_halt halt.DiskFault none = absurd none
load_halt halt.Stopped none = absurd none

-- a play without a fault is done
pub faultless_done : (s : Status) → IsEndOfPlay s → IsFaultless s → s ≡ status.Done
faultless_done status.Done end none = refl
faultless_done status.NoMemory end none = absurd none
faultless_done status.Usage end none = absurd end
faultless_done (status.Script line) end none = absurd end
faultless_done status.ReadFault end none = absurd end
faultless_done status.WriteFault end none = absurd none
faultless_done status.DiskFault end none = absurd none
faultless_done status.NotHeap end none = absurd end
faultless_done (status.Damaged at) end none = absurd end
faultless_done (status.TooSmall size need) end none = absurd end

module _ {D : Type 0} (g : Ghosts D) where
  -- no call
  pub counts_none : (disk : D) → CountsStay g disk disk
  counts_none disk = record { faults = refl; stops = refl }

  -- what caused an error since they were as they are has caused it since before
  pub cause_since : {T : Type 0} (old mid new : D) (result : Result T DiskError) → CountsStay g old mid → HasCause (g.faults mid) (g.faults new) (g.stops mid) (g.stops new) result
      → HasCause (g.faults old) (g.faults new) (g.stops old) (g.stops new) result
  cause_since old mid new result same cause =
      subst (λ (s : ℕ). HasCause (g.faults old) (g.faults new) s (g.stops new) result) same.stops (subst (λ (f : ℕ). HasCause f (g.faults new) (g.stops mid) (g.stops new) result) same.faults cause)

  -- one after the other
  pub counts_on : (old mid new : D) → CountsStay g old mid → CountsStay g mid new → CountsStay g old new
  counts_on old mid new first second = record { faults = second.faults ∙ first.faults; stops = second.stops ∙ first.stops }

  -- a call that the disk did not end in an error
  pub keeps_counts : {T : Type 0} (old new : D) (x : T) → KeepsDisk {T = T} g old new (Ok x) → CountsStay g old new
  keeps_counts old new x keeps = record { faults = keeps.cause.faults_still (λ is. cc); stops = keeps.cause.stops_still (λ is. cc) }

  -- an opening, or a format, of which something else is told than the disk's error
  pub open_counts : (old new : D) (e : OpenError) → KeepsDisk g old new (error_device (recovery_error e)) → open_status e ≢ status.DiskFault → CountsStay g old new
  open_counts old new opening.NoMemory keeps none = keeps_counts old new tt keeps
  open_counts old new opening.NotHeap keeps none = keeps_counts old new tt keeps
  open_counts old new (opening.Damaged at) keeps none = keeps_counts old new tt keeps
  open_counts old new opening.DiskFault keeps none = absurd (none refl)
  open_counts old new opening.Stopped keeps none = absurd (none refl)

  pub format_counts : (old new : D) (e : FormatError) → KeepsDisk g old new (format_device e) → format_status e ≢ status.DiskFault → CountsStay g old new
  format_counts old new (format.TooSmall size need) keeps none = keeps_counts old new tt keeps
  format_counts old new format.DiskFault keeps none = absurd (none refl)
  format_counts old new format.Stopped keeps none = absurd (none refl)

-- Two counts that don't fall, and whose sum stays, stay.
pub sum_stays : (f s f' s' : ℕ) → f ≤ f' → s ≤ s' → f' + s' ≡ f + s → (f' ≡ f) × (s' ≡ s)
sum_stays f s f' s' ff ss same = (omega (arith, ff, ss, same), omega (arith, ff, ss, same))
