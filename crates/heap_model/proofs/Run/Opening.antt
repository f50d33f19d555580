-- Cores with the same opening.
use Rattle.std.specs.Prelude.{◌≡◌}
use Rattle.heap_model.specs.Core.{Core}

-- What each step keeps of a core: what it was opened with.
pub record SameOpening (c d : Core) : Type 0 where
  pub pages : d.pages ≡ c.pages
  pub room : d.room ≡ c.room
  pub first_number : d.first_number ≡ c.first_number
  pub first : d.first ≡ c.first
  pub g0 : d.g0 ≡ c.g0
  pub born : d.born ≡ c.born
  pub before : d.before ≡ c.before
