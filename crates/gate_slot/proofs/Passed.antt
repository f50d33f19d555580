-- How many device calls passed at each end of a run.
use Rattle.std.proofs.Common.{◌≡◌, ℕ, suc, ◌<◌, Result, Ok, Err, slice_index, ◌==◌, if◌then◌else◌, List, refl, ◌∙◌, ap, arith}
use Rattle.counts.specs.Count.{raised, counted}
use Rattle.disk_model.specs.Disk.{passed_after}
use Rattle.disk_model.specs.declared.disk.DiskError.{DiskError}
use Rattle.disk_model.specs.declared.disk.DiskError.TheVariants.{Failed, Stopped}
use Rattle.gate_slot.specs.Passing.{Passes}

-- the run ends at an error of the call after the first k
pub ended : (n k before mid now : ℕ) (result : Result (Unit {0}) DiskError) (e : DiskError) → result ≡ Err e → k < n → mid ≡ counted k before → now ≡ passed_after mid (Err e) → Passes n before now result
ended n k before mid now result Stopped is more so_far last = record {
  ok = rw is tt;
  some = (k, (omega arith), last ∙ so_far);
  stopped = λ same any. (k, more, last ∙ so_far);
}
ended n k before mid now result Failed is more so_far last = record {
  ok = rw is tt;
  some = (suc k, (omega arith), last ∙ ap raised so_far);
  stopped = λ same any. absurd (cc (is, same));
}

-- the run's last call, whose result it returns
pub done : (n k before mid now : ℕ) (result : Result (Unit {0}) DiskError) → suc k ≡ n → mid ≡ counted k before → now ≡ passed_after mid result → Passes n before now result
done n k before mid now (Ok nothing) is so_far last = record {
  ok = last ∙ ap raised so_far ∙ ap (λ (m : ℕ). counted m before) is;
  some = (suc k, (omega arith), last ∙ ap raised so_far);
  stopped = λ same any. absurd (cc same);
}
done n k before mid now (Err e) is so_far last = ended n k before mid now (Err e) e refl (omega arith) so_far last

-- one more call passed
pub one_more : (k before mid now : ℕ) → mid ≡ counted k before → now ≡ raised mid → now ≡ counted (suc k) before
one_more k before mid now so_far last = last ∙ ap raised so_far

-- an open gate takes two calls to close
pub two_calls : (gate : ℕ) (image : List ℕ) → slice_index image gate ≡ 1 → ◌≡◌ {A = ℕ} (if slice_index image gate == 1 then 2 else 0) 2
two_calls gate image is = rw is refl
