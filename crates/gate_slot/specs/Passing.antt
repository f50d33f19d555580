-- How many device calls of a run of them passed.
use Rattle.std.specs.Prelude.{◌≡◌, ℕ, ◌<◌, ◌≤◌, Result, OnOk, Err}
use Rattle.counts.specs.Count.{counted}
use Rattle.disk_model.specs.declared.disk.DiskError.{DiskError}
use Rattle.disk_model.specs.declared.disk.DiskError.TheVariants.{Stopped}

-- A run of n writes and syncs that ends at its first error passed all of them, or no more than all; fewer where it was
-- stopped, if there were any.
pub record Passes (n before now : ℕ) (result : Result (Unit {0}) DiskError) : Type 0 where
  pub ok : OnOk result (now ≡ counted n before)
  pub some : (k : ℕ) × (k ≤ n) × (now ≡ counted k before)
  pub stopped : result ≡ Err Stopped → 0 < n → (k : ℕ) × (k < n) × (now ≡ counted k before)
