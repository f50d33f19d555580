-- The ranges that calls of the record wrote.
use Rattle.std.specs.Prelude.{◌≡◌, ℕ, ◌+◌, ◌≤◌, false, List, slice_index}
use Rattle.disk_model.specs.Memory.{is_within}
use Rattle.disk_model.specs.declared.memory.Call.{Call}
use Rattle.disk_model.specs.declared.memory.Call.TheVariants.{Wrote, Synced, Restarted}

-- the range that a call wrote
abbrev pub range_of : Call → ℕ × ℕ
range_of (Wrote at from len) = (at, len)
range_of Synced = (0, 0)
range_of Restarted = (0, 0)

-- the range lies in an image of that size
abbrev pub Fits : ℕ → ℕ × ℕ → Type 0
Fits size range = range.0 + range.1 ≤ size

-- two images have the same bytes where no range is
abbrev pub IsTied : List (ℕ × ℕ) → List ℕ → List ℕ → Type 0
IsTied ranges synced newest = (k : ℕ) → is_within ranges k ≡ false → slice_index synced k ≡ slice_index newest k
