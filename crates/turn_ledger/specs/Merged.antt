-- The posts of two passes.
use Rattle.std.specs.Prelude.{◌≡◌, ◌⊎◌, List, [], ◌∷◌}

module _ {E : Type 0} where
  -- the last list has the entries of the two others, each once and those of each in their order
  abbrev pub IsMerge : List E → List E → List E → Type 0
  IsMerge xs ys [] = (xs ≡ []) × (ys ≡ [])
  IsMerge xs ys (z ∷ zs) = ((xs' : List E) × (xs ≡ z ∷ xs') × IsMerge xs' ys zs) ⊎ ((ys' : List E) × (ys ≡ z ∷ ys') × IsMerge xs ys' zs)
