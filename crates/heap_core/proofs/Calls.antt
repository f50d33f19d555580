-- How many device calls of a format passed.
use Rattle.std.proofs.Common.{◌≡◌, ℕ, suc, ◌+◌, ◌<◌, Result, Err, ◌∙◌, ap, arith}
use Rattle.counts.specs.Count.{raised, counted}
use Rattle.disk_model.specs.Disk.{passed_after}
use Rattle.disk_model.specs.declared.disk.DiskError.{DiskError}
use Rattle.disk_model.specs.declared.disk.DiskError.TheVariants.{Failed, Stopped}
use Rattle.gate_slot.specs.Passing.{Passes}
use Rattle.gate_slot.proofs.PassingLaws.{counted-add}

-- Of n calls all but those that are left have passed.
pub record SoFar (n left before now : ℕ) : Type 0 where
  pub done : ℕ
  pub all : done + left ≡ n
  pub passed : now ≡ counted done before

pub one_more : (n left rest before mid now : ℕ) → 1 + rest ≡ left → SoFar n left before mid → now ≡ raised mid → SoFar n rest before now
one_more n left rest before mid now one so_far is = record { done = suc so_far.done; all = omega (arith, so_far.all); passed = is ∙ ap raised so_far.passed }

-- the next one was not done
pub ended : (n left before mid now : ℕ) (result : Result (Unit {0}) DiskError) (e : DiskError) → result ≡ Err e → 0 < left → SoFar n left before mid → now ≡ passed_after mid (Err e) → Passes n before now result
ended n left before mid now result Stopped is more so_far last = record {
  ok = rw is tt;
  some = (so_far.done, omega (arith, so_far.all), last ∙ so_far.passed);
  stopped = λ same any. (so_far.done, omega (arith, so_far.all), last ∙ so_far.passed);
}
ended n left before mid now result Failed is more so_far last = record {
  ok = rw is tt;
  some = (suc so_far.done, omega (arith, so_far.all), last ∙ ap raised so_far.passed);
  stopped = λ same any. absurd (cc (is, same));
}

-- a run that ended at an error, after others that passed and before others that were not made
pub then_err : (n m all before mid now : ℕ) (e : DiskError) → n + m < all → mid ≡ counted n before → Passes m mid now (Err e) → Passes all before now (Err e)
then_err n m all before mid now e more first run =
    let is : now ≡ counted (n + run.some.0) before = run.some.2 ∙ ap (counted run.some.0) first ∙ counted-add run.some.0 n before in
    record {
      ok = tt;
      some = (n + run.some.0, omega (arith, run.some.1), is);
      stopped = λ same any. (n + run.some.0, omega (arith, run.some.1), is);
    }
