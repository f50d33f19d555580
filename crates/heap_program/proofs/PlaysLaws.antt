-- Laws of what plays keep of a disk, one after another.
use Rattle.std.specs.Prelude.{ℕ, Result, Ok, refl}
use Rattle.std.proofs.Common.{◌∙◌, arith}
use Rattle.disk_model.proofs.KeepsLaws.{rose_since}
use Rattle.disk_model.specs.declared.disk.Disk.{Ghosts}
use Rattle.disk_model.specs.declared.disk.DiskError.{DiskError}
use Rattle.heap_core.specs.Causes.{WasCaused}
use Rattle.heap_program.specs.Causes.{PlaysDisk}
use Rattle.heap_program.proofs.Unfaulted.{counts_on}

-- the causes of two plays, of which the second one's answer is returned
was_last : {S T : Type 0} (faults mid faults' stops mids stops' : ℕ) (first : Result S DiskError) (result : Result T DiskError) → WasCaused faults mid stops mids first → WasCaused mid faults' mids stops' result → WasCaused faults faults' stops stops' result
was_last faults mid faults' stops mids stops' first result before cause = record {
  faults_kept = omega (arith, before.faults_kept, cause.faults_kept);
  stops_kept = omega (arith, before.stops_kept, cause.stops_kept);
  failed = λ is. rose_since faults mid faults' before.faults_kept cause.faults_kept (cause.failed is);
  stopped = λ is. rose_since stops mids stops' before.stops_kept cause.stops_kept (cause.stopped is);
}

module _ {D : Type 0} (g : Ghosts D) where
  -- nothing was played
  pub played_none : {T : Type 0} (disk : D) (x : T) (done : Type 0) → PlaysDisk {T = T} g disk disk (Ok x) done
  played_none disk x done = record {
    extent = refl;
    origin = refl;
    cause = record { faults_kept = omega arith; stops_kept = omega arith; failed = λ is. absurd (cc is); stopped = λ is. absurd (cc is) };
    still = λ well. record { faults = refl; stops = refl };
    restarts = λ told. refl;
  }

  -- one more play, whose answer is returned: the first one was done, and so is the second one if both are
  pub played_on : {S T A B C : Type 0} (old mid new : D) (first : Result S DiskError) (result : Result T DiskError) → A → (C → B) → PlaysDisk g old mid first A → PlaysDisk g mid new result B → PlaysDisk g old new result C
  played_on old mid new first result well is before play = record {
    extent = play.extent ∙ before.extent;
    origin = play.origin ∙ before.origin;
    cause = was_last (g.faults old) (g.faults mid) (g.faults new) (g.stops old) (g.stops mid) (g.stops new) first result before.cause play.cause;
    still = λ done. counts_on g old mid new (before.still well) (play.still (is done));
    restarts = λ told. play.restarts told ∙ before.restarts told;
  }
