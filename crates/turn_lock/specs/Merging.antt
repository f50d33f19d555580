-- How callers combine the turns of several passes.
use Rattle.std.specs.Prelude.{ℕ, ◌+◌, ◌≤◌, List, [], ◌∷◌, map}

module _ {E : Type 0} where
  -- the entries, without their places
  abbrev pub entries_of : List (ℕ × E) → List E
  entries_of placed = map (λ p. p.1) placed

  -- the places ascend, from this one on
  abbrev pub Rise : ℕ → List (ℕ × E) → Type 0
  Rise low [] = Unit {0}
  Rise low (p ∷ ps) = (low ≤ p.0) × Rise (p.0 + 1) ps
