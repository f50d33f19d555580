use Rattle.std.proofs.Common.{◌≡◌, ◌≢◌, ◌≤◌, inl, ℕ, min, rules, refl, sym, ap, ◌∙◌, subst, arith}
use Rattle.counts.specs.Count.{counted}
use Rattle.disk_model.specs.Disk.{Only}
use Rattle.disk_model.specs.Fuse.{fuse_inner, fuse_passed}
use Rattle.heap_core.specs.Causes.{recovery_error}
use Rattle.heap_core.specs.declared.errors.OpenError.TheVariants as opening
use Rattle.heap_program.specs.declared.status.Status.TheVariants.{NoMemory}
use Rattle.heap_model.specs.CoreCrash.{StandsForFirst}
use Rattle.heap_model.specs.Image.{IsLegal}
use Rattle.heap_model.proofs.Shaped.{shaped_image}
use Rattle.heap_model.specs.Opening.{opening_calls, rollback_of}
use Rattle.heap_program.specs.Headline.{IsCutOff, FailsToOpen}
use Rattle.heap_program.proofs.PlayFuse.{same_disk, same_limit, fuse_since, fuse_passes, fuse_none, fuse_most}
use Rattle.heap_program.proofs.PrintRecovered.{keeps_first, few_to_open, whole_passes, error_cut}
use Rattle.heap_recovery.specs.Faults.{IsLeftOf, ComesBeforeWrites}
use Rattle.heap_recovery.proofs.FaultLaws.{shaped_readable}
use Rattle.heap_program.specs.Refusals.{IsFault, KeepsFault}
use Rattle.heap_program.proofs.ImageLaws.{keeps_opening}
use Rattle.heap_recovery.specs.Recovered.{ErrorPasses}
use Rattle.heap_program.proofs.again.open_cut_off.Goals as goal

-- the whole opening passed
pub returns-in-Ok-clause-cut : goal.returns-in-Ok-clause-cut
returns-in-Ok-clause-cut g c tells core k at_first at_only =
    let d = g.D.Disk in
    let start = fuse_inner c.new.result in
    let inner = c.new.ensures.inner in
    let fuse = c.in-Ok.heap.disk in
    let e = c.in-Ok.ensures in
    let first = subst (λ x. StandsForFirst core k (d.bytes x)) (sym inner) at_first in
    let only = subst (λ x. Only (d.bytes x) (d.may_leave x)) (sym inner) at_only in
    let stands = first.stands in
    let legal : IsLegal stands.stored (d.bytes start) = record { log = stands.says.legal; held = stands.held } in
    let n = opening_calls stands.stored in
    let origin = e.image.disk.origin ∙ c.new.ensures.origin in
    let began = same_disk _ _ origin ∙ sym inner in
    let within = subst (λ (m : ℕ). fuse_passed fuse ≤ m) (same_limit _ _ origin) fuse.within in
    let shaped = shaped_image legal in
    let log = (e.image.readable tells stands.stored shaped.log.state (shaped_readable stands.stored (d.bytes start) shaped)).moments only in
    let keeps = keeps_first d core k start (fuse_inner fuse) first (fuse_since c.new.result fuse _ ((e.image.shaped tells stands.stored shaped).moments only)) (fuse_since c.new.result fuse _ log)
    (λ left may. (e.image.shaped tells stands.stored shaped).crash only left may) (e.image.disk.restarts tells) in
    let through = min c.args.calls n in
    let all : fuse_passed fuse ≡ through = whole_passes c.args.calls n (fuse_passed fuse) (few_to_open (rollback_of stands.stored)) within ((e.image.shaped tells stands.stored (shaped_image legal)).passes.ok ∙ ap (counted n) c.new.ensures.passed) in
    let cut : IsCutOff d c.args.calls core k start (fuse_inner fuse) = record {
      keeps = keeps;
      passed = λ u. fuse_passes fuse start through tells began u all;
      most = fuse_most fuse start through tells began (omega (arith, all));
    } in
    rw (c.into_inner.ensures, c.close.ensures, sym inner) cut

-- it did not, and its outcome is ignored
pub returns-else-eq-clause-cut : goal.returns-else-eq-clause-cut
returns-else-eq-clause-cut g c tells core k at_first at_only =
    let d = g.D.Disk in
    let start = fuse_inner c.new.result in
    let inner = c.new.ensures.inner in
    let fuse = c.in-Err.fuse in
    let e = c.in-Err.ensures in
    let other : c.in-Err.e ≢ opening.NoMemory = search rules in
    let first = subst (λ x. StandsForFirst core k (d.bytes x)) (sym inner) at_first in
    let only = subst (λ x. Only (d.bytes x) (d.may_leave x)) (sym inner) at_only in
    let stands = first.stands in
    let legal : IsLegal stands.stored (d.bytes start) = record { log = stands.says.legal; held = stands.held } in
    let n = opening_calls stands.stored in
    let origin = e.image.disk.origin ∙ c.new.ensures.origin in
    let limit = same_limit _ _ origin in
    let began = same_disk _ _ origin ∙ sym inner in
    let within = subst (λ (m : ℕ). fuse_passed fuse ≤ m) limit fuse.within in
    let shaped = shaped_image legal in
    let log = (e.image.readable tells stands.stored shaped.log.state (shaped_readable stands.stored (d.bytes start) shaped)).moments only in
    let keeps = keeps_first d core k start (fuse_inner fuse) first (fuse_since c.new.result fuse _ ((e.image.shaped tells stands.stored shaped).moments only)) (fuse_since c.new.result fuse _ log)
    (λ left may. (e.image.shaped tells stands.stored shaped).crash only left may) (e.image.disk.restarts tells) in
    let passes = subst (λ (p : ℕ). ErrorPasses n p (fuse_passed fuse) (recovery_error c.in-Err.e)) c.new.ensures.passed ((e.image.shaped tells stands.stored (shaped_image legal)).passes) in
    let all = error_cut c.args.calls n (fuse_passed fuse) (few_to_open (rollback_of stands.stored)) within _ _ _ _ c.in-Err.e (λ blown. fuse.blown blown ∙ limit) e.image.disk.cause ((e.image.shaped tells stands.stored (shaped_image legal)).error) other passes in
    let cut : IsCutOff d c.args.calls core k start (fuse_inner fuse) = record {
      keeps = keeps;
      passed = λ u. fuse_passes fuse start _ tells began u (all.1 u);
      most = fuse_most fuse start _ tells began all.0;
    } in
    rw (c.into_inner-disk.ensures, sym inner) cut

-- memory ran out
pub returns-then-eq-clause-cut : goal.returns-then-eq-clause-cut
returns-then-eq-clause-cut g c tells core k at_first at_only =
    let d = g.D.Disk in
    let start = fuse_inner c.new.result in
    let inner = c.new.ensures.inner in
    let fuse = c.in-Err.fuse in
    let e = c.in-Err.ensures in
    let is : c.in-Err.e ≡ opening.NoMemory = search rules in
    let first = subst (λ x. StandsForFirst core k (d.bytes x)) (sym inner) at_first in
    let only = subst (λ x. Only (d.bytes x) (d.may_leave x)) (sym inner) at_only in
    let stands = first.stands in
    let legal : IsLegal stands.stored (d.bytes start) = record { log = stands.says.legal; held = stands.held } in
    let n = opening_calls stands.stored in
    let began = same_disk _ _ (e.image.disk.origin ∙ c.new.ensures.origin) ∙ sym inner in
    let shaped = shaped_image legal in
    let log = (e.image.readable tells stands.stored shaped.log.state (shaped_readable stands.stored (d.bytes start) shaped)).moments only in
    let keeps = keeps_first d core k start (fuse_inner fuse) first (fuse_since c.new.result fuse _ ((e.image.shaped tells stands.stored shaped).moments only)) (fuse_since c.new.result fuse _ log)
    (λ left may. (e.image.shaped tells stands.stored shaped).crash only left may) (e.image.disk.restarts tells) in
    let passes = subst (λ error. ErrorPasses n (fuse_passed c.new.result) (fuse_passed fuse) (recovery_error error)) is ((e.image.shaped tells stands.stored (shaped_image legal)).passes) in
    let same = fuse_none fuse start tells began (passes ∙ c.new.ensures.passed) in
    let reads = (e.image.left_alone (subst (λ error. ComesBeforeWrites (recovery_error error)) (sym is) tt)).contents tells in
    let fails : FailsToOpen d core k NoMemory start (fuse_inner fuse) = record {
      reason = inl refl;
      keeps = keeps;
      most = (0, omega arith, same);
      none = λ refused. same;
      only = λ refused image may. only image (reads.crash image may) ∙ sym reads.bytes;
    } in
    rw (c.into_inner-disk.ensures, sym inner) fails

-- at each moment of such an opening the fault stays
pub returns-in-Ok-clause-keeps : goal.returns-in-Ok-clause-keeps
returns-in-Ok-clause-keeps g c tells only =
    let d = g.D.Disk in
    let inner = c.new.ensures.inner in
    let first = fuse_inner c.new.result in
    let cut = fuse_inner c.in-Ok.heap.disk in
    let e = c.in-Ok.ensures in
    let only_f = subst (λ x. Only (d.bytes x) (d.may_leave x)) (sym inner) only in
    let keeps = keeps_opening _ c.new.result c.in-Ok.heap.disk _ e.image tells only_f in
    let inside : KeepsFault d first cut = record {
      keeps_fault = λ expected fault. fuse_since c.new.result c.in-Ok.heap.disk (IsFault expected) (keeps.keeps_fault expected fault);
      keeps_log = λ fault. fuse_since c.new.result c.in-Ok.heap.disk (IsLeftOf (d.bytes first)) (keeps.keeps_log fault);
    } in
    rw (c.into_inner.ensures, c.close.ensures) (subst (λ x. KeepsFault d x cut) inner inside)

pub returns-else-eq-clause-keeps : goal.returns-else-eq-clause-keeps
returns-else-eq-clause-keeps g c tells only =
    let d = g.D.Disk in
    let inner = c.new.ensures.inner in
    let first = fuse_inner c.new.result in
    let cut = fuse_inner c.in-Err.fuse in
    let e = c.in-Err.ensures in
    let only_f = subst (λ x. Only (d.bytes x) (d.may_leave x)) (sym inner) only in
    let keeps = keeps_opening _ c.new.result c.in-Err.fuse _ e.image tells only_f in
    let inside : KeepsFault d first cut = record {
      keeps_fault = λ expected fault. fuse_since c.new.result c.in-Err.fuse (IsFault expected) (keeps.keeps_fault expected fault);
      keeps_log = λ fault. fuse_since c.new.result c.in-Err.fuse (IsLeftOf (d.bytes first)) (keeps.keeps_log fault);
    } in
    rw c.into_inner-disk.ensures (subst (λ x. KeepsFault d x cut) inner inside)

pub returns-then-eq-clause-keeps : goal.returns-then-eq-clause-keeps
returns-then-eq-clause-keeps g c tells only =
    let d = g.D.Disk in
    let inner = c.new.ensures.inner in
    let first = fuse_inner c.new.result in
    let cut = fuse_inner c.in-Err.fuse in
    let e = c.in-Err.ensures in
    let only_f = subst (λ x. Only (d.bytes x) (d.may_leave x)) (sym inner) only in
    let keeps = keeps_opening _ c.new.result c.in-Err.fuse _ e.image tells only_f in
    let inside : KeepsFault d first cut = record {
      keeps_fault = λ expected fault. fuse_since c.new.result c.in-Err.fuse (IsFault expected) (keeps.keeps_fault expected fault);
      keeps_log = λ fault. fuse_since c.new.result c.in-Err.fuse (IsLeftOf (d.bytes first)) (keeps.keeps_log fault);
    } in
    rw c.into_inner-disk.ensures (subst (λ x. KeepsFault d x cut) inner inside)
