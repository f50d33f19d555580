-- Counts of a 64-bit type.
use Rattle.std.specs.Prelude.{ℕ, ◌+◌, ◌<◌, ◌≤◌, ◌⊎◌, nat_lt, if◌then◌else◌}
use Rattle.std.proofs.Common.{zero, suc}

-- the greatest count of its type
abbrev pub greatest : ℕ
greatest = 18446744073709551615

-- one more; the greatest count saturates
abbrev pub raised : ℕ → ℕ
raised n = if nat_lt n greatest then n + 1 else n

-- that many more
abbrev pub counted : ℕ → ℕ → ℕ
counted zero n = n
counted (suc k) n = raised (counted k n)

-- A count rose between two states. The greatest counts as risen, since it can't show a rise.
abbrev pub Rose : ℕ → ℕ → Type 0
Rose before now = (before < now) ⊎ (greatest ≤ before)
