-- A map that has the numbers of places.
use Rattle.std.specs.Prelude.{◌≡◌, ℕ, ◌<◌, List, true, nat_eq, position, Option}
use Rattle.std.specs.List.{list_any, IsDistinct}

-- No place has two numbers, each is an address of 32 bits, and the map has each place's number.
pub record IsNumbering (places : List ℕ) (numbers : ℕ → Option ℕ) : Type 0 where
  pub apart : IsDistinct nat_eq places
  pub small : (at : ℕ) → list_any (nat_eq at) places ≡ true → at < 4294967296
  pub told : (at : ℕ) → numbers at ≡ position (nat_eq at) places
