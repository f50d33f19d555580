-- What a call on a source or a sink reports of its faults.
use Rattle.std.specs.Prelude.{ℕ, ◌≤◌, Result, IsErr}
use Rattle.counts.specs.Count.{Rose}

-- The count didn't fall over a call, which failed only where the count rose.
pub record HasCause {T E : Type 0} (faults faults' : ℕ) (result : Result T E) : Type 0 where
  pub kept : faults ≤ faults'
  pub failed : IsErr result → Rose faults faults'
