-- An opening that fails for lack of memory, and a heap that was opened again, leave nothing unsynced.
use Rattle.std.proofs.Common.{◌≡◌, ◌≢◌, inl, inr, ℕ, List, Bool, Option, refl, sym, ◌∙◌}
use Rattle.std.specs.Prelude.{◌⊎◌}
use Rattle.disk_model.specs.declared.disk.Disk.{Ghosts}
use Rattle.disk_model.specs.Disk.{Only}
use Rattle.disk_model.specs.Keeps.{SameContents}
use Rattle.heap_core.specs.Causes.{recovery_error}
use Rattle.heap_core.specs.declared.errors.OpenError.{OpenError}
use Rattle.heap_core.specs.declared.errors.OpenError.TheVariants as opening
use Rattle.heap_model.specs.Core.{Core}
use Rattle.heap_program.specs.declared.status.Status.{Status}
use Rattle.heap_program.specs.declared.status.Status.TheVariants.{Done, NoMemory, DiskFault}
use Rattle.heap_program.specs.Headline.{StartsAgain, Reopens, EndsUnopened}
use Rattle.heap_program.specs.Output.{WroteRecovered, WroteNothing}
use Rattle.heap_program.specs.StatusOf.{open_status}
use Rattle.heap_recovery.specs.Recovered.{IsFromOutside}
use Rattle.heap_recovery.specs.Faults.{ComesBeforeWrites}

-- what only reads leaves what it found
pub reads_only : {D : Type 0} (g : Ghosts D) (old new : D) → SameContents g old new → Only (g.bytes old) (g.may_leave old) → Only (g.bytes new) (g.may_leave new)
reads_only g old new same only image may = only image (same.crash image may) ∙ sym same.bytes

-- an error that has the status of no memory comes before anything is written
pub refused_memory : (e : OpenError) → open_status e ≡ NoMemory → ComesBeforeWrites (recovery_error e)
refused_memory opening.NoMemory is = tt
refused_memory opening.NotHeap is = cc
refused_memory (opening.Damaged at) is = cc
refused_memory opening.DiskFault is = cc
refused_memory opening.Stopped is = cc

-- an opening that neither the image nor the disk ended had no memory
pub outside_memory : (e : OpenError) → IsFromOutside (recovery_error e) → open_status e ≢ DiskFault → open_status e ≡ NoMemory
outside_memory opening.NoMemory outside other = refl
outside_memory opening.NotHeap outside other = absurd outside
outside_memory (opening.Damaged at) outside other = absurd outside
outside_memory opening.DiskFault outside other = absurd (other refl)
outside_memory opening.Stopped outside other = absurd (other refl)

pub recovered_only : {D : Type 0} (g : Ghosts D) (again : Option ℕ) (c : Core) (k : ℕ) (stopped final : D) (by : Status) (told : Bool) (before after : List ℕ)
    → WroteRecovered c k (StartsAgain g again c k (Reopens g c k) stopped final) by told before after ⊎ WroteNothing (EndsUnopened g again c k stopped final by) by told before after → by ≡ Done → Only (g.bytes final) (g.may_leave final)
recovered_only g again c k stopped final by told before after (inl found) done = found.opened.outcome.only
recovered_only g again c k stopped final by told before after (inr nothing) done = absurd (nothing.early done)
