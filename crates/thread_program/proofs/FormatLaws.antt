-- A run of workers whose heap was not made.
use Rattle.std.proofs.Common.{◌≡◌, ⊎_elim, ℕ, ◌<◌, ◌≤◌, Bool, List, refl, sym, ap, subst}
use Rattle.std.specs.Prelude.{IsTrue}
use Rattle.std.proofs.lemmas.Bool.{cases_lt}
use Rattle.disk_model.specs.declared.disk.Disk.{Ghosts}
use Rattle.disk_model.specs.declared.disk.DiskError.TheVariants as device
use Rattle.disk_model.specs.Disk.{SameOutside}
use Rattle.disk_model.specs.Keeps.{KeepsDisk}
use Rattle.disk_model.specs.Moments.{LeavesOnly}
use Rattle.gate_slot.specs.Passing.{Passes}
use Rattle.image_plan.specs.Plan.{image_size}
use Rattle.heap_core.specs.declared.errors.FormatError.{FormatError}
use Rattle.heap_core.specs.declared.errors.FormatError.TheVariants as format
use Rattle.heap_core.specs.Format.{IsFormatting, format_calls}
use Rattle.heap_core.specs.GivenBack.{format_device, IsFromDisk}
use Rattle.heap_program.specs.declared.status.Status.{Status}
use Rattle.heap_program.specs.Headline.{made_super, IsUnmade, IsNotMade}
use Rattle.heap_program.specs.StatusOf.{format_status}

-- pairs that are the same have the same parts
pub parts : {A B : Type 0} (p q : A × B) → p ≡ q → (p.0 ≡ q.0) × (p.1 ≡ q.1)
parts p q same = (ap (λ x. x.0) same, ap (λ x. x.1) same)

module _ {D : Type 0} (g : Ghosts D) (pages : ℕ) (old new : D) where
  abbrev need : ℕ
  need = image_size pages 1048576

  abbrev Calls : FormatError → Type 0
  Calls e = Passes (format_calls need (g.bytes old)) (g.passed old) (g.passed new) (format_device e)

  from_disk : (e : FormatError) → KeepsDisk {T = Unit {0}} g old new (format_device e) → IsFromDisk e → Calls e → IsUnmade g (made_super pages) old new (format_status e)
  from_disk (format.TooSmall size full) keeps disk passes = absurd disk
  from_disk format.DiskFault keeps disk passes = record { error = device.Failed; cause = keeps.cause; passes = passes }
  from_disk format.Stopped keeps disk passes = record { error = device.Stopped; cause = keeps.cause; passes = passes }

  reason : (e : FormatError) → KeepsDisk {T = Unit {0}} g old new (format_device e) → (g.extent old < need → (e ≡ format.TooSmall (g.extent old) need) × (new ≡ old)) → (need ≤ g.extent old → IsFromDisk e) → (need ≤ g.extent old → Calls e)
      → IsUnmade g (made_super pages) old new (format_status e)
  reason e keeps small large passes = ⊎_elim
      (λ (less : g.extent old < need). subst (λ (x : FormatError). IsUnmade g (made_super pages) old new (format_status x)) (sym (small less).0) (small less).1)
      (λ (fits : need ≤ g.extent old). from_disk e keeps (large fits) (passes fits))
      (cases_lt (g.extent old) need)

  -- Nothing was made, and nothing was written.
  pub not_formatted : (e : FormatError) (by : Status) (told : Bool) (before : List ℕ) → by ≡ format_status e → IsTrue g.tells → KeepsDisk {T = Unit {0}} g old new (format_device e)
      → (g.extent old < need → (e ≡ format.TooSmall (g.extent old) need) × (new ≡ old)) → (need ≤ g.extent old → IsFromDisk e) → (need ≤ g.extent old → Calls e)
      → LeavesOnly g.moment g.left_since old new (IsFormatting (made_super pages) (g.bytes old)) → LeavesOnly g.moment g.left_since old new (SameOutside 0 need (g.bytes old)) → IsNotMade g (made_super pages) old new by told before before
  not_formatted e by told before is tells keeps small large passes moments outside = record {
    reason = subst (IsUnmade g (made_super pages) old new) (sym is) (reason e keeps small large passes);
    nothing = λ t. refl;
    moments = moments;
    outside = outside;
    restarts = keeps.restarts tells;
  }
