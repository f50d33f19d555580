-- Laws of how many device calls of a run completed.
use Rattle.std.specs.Prelude.{◌≡◌, ℕ, ◌+◌, ◌<◌, Result, OnOk, Ok, Err}
use Rattle.std.proofs.Common.{zero, suc, ◌∙◌, ap, arith}
use Rattle.counts.specs.Count.{raised, counted}
use Rattle.disk_model.specs.declared.disk.DiskError.{DiskError}
use Rattle.gate_slot.specs.Passing.{Passes}

-- n more, and then m more
pub counted-add : (m n before : ℕ) → counted m (counted n before) ≡ counted (n + m) before
counted-add zero n before = let same : n ≡ n + 0 = omega arith in ap (λ (k : ℕ). counted k before) same
counted-add (suc m) n before = let same : suc (n + m) ≡ n + suc m = omega arith in ap raised (counted-add m n before) ∙ ap (λ (k : ℕ). counted k before) same

-- a run of m more after n that passed
pub joined : (n m before mid now : ℕ) (result : Result (Unit {0}) DiskError) → 0 < m → mid ≡ counted n before → Passes m mid now result → Passes (n + m) before now result
joined n m before mid now result any first second = record {
  ok = then_ok result second.ok;
  some = (n + second.some.0, (omega (arith, second.some.1)), on second.some.0 second.some.2);
  stopped = λ same all. let short = second.stopped same any in (n + short.0, (omega (arith, short.1)), on short.0 short.2);
}
  where
    on : (k : ℕ) → now ≡ counted k mid → now ≡ counted (n + k) before
    on k is = is ∙ ap (counted k) first ∙ counted-add k n before

    then_ok : (r : Result (Unit {0}) DiskError) → OnOk r (now ≡ counted m mid) → OnOk r (now ≡ counted (n + m) before)
    then_ok (Ok nothing) is = on m is
    then_ok (Err e) is = tt

-- the first n of a run of m, which ended at an error of theirs
pub cut_short : (n m before now : ℕ) (e : DiskError) → n < m → Passes n before now (Err e) → Passes m before now (Err e)
cut_short n m before now e more run = record {
  ok = tt;
  some = (run.some.0, (omega (arith, run.some.1)), run.some.2);
  stopped = λ same any. (run.some.0, (omega (arith, run.some.1, more)), run.some.2);
}
