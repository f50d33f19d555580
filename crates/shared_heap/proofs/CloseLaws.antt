-- Passes that become one.
use Rattle.std.proofs.Common.{◌≡◌, ℕ, ◌+◌, List, [], ◌∷◌, ◌++◌, arith}
use Rattle.turn_lock.specs.Turning.{StandIn, total}

pub total_last : {X : Type 0} (f : X → ℕ) (xs : List X) (y : X) → total f (xs ++ y ∷ []) ≡ total f xs + f y
total_last f [] y = omega arith
total_last f (x ∷ xs) y = omega (arith, total_last f xs y)

pub stand_parts : {E : Type 0} (log : List E) (ps qs : List (ℕ × E)) → StandIn log (ps ++ qs) → StandIn log ps × StandIn log qs
stand_parts log [] qs h = (tt, h)
stand_parts log (p ∷ ps) qs h = let rest = stand_parts log ps qs h.1 in ((h.0, rest.0), rest.1)
