-- Numbers that occur once each, and lists of turns.
use Rattle.std.specs.Prelude.{◌≡◌, ℕ, zero, suc, ◌+◌, ◌%◌, ◌^◌, ◌<◌, ◌≤◌, ◌⊎◌, ◌==◌, List, [], ◌∷◌, ◌++◌, map, length, max, drop, cond, nat_lt, Some, slice_get}

-- 1 if both are the same number, and otherwise 0
abbrev pub one : ℕ → ℕ → ℕ
one x y = cond (x == y) 1 0

-- how often a number occurs in a list
abbrev pub times : ℕ → List ℕ → ℕ
times x [] = 0
times x (y ∷ ys) = one x y + times x ys

-- f of each, added up
abbrev pub total : {A : Type 0} → (A → ℕ) → List A → ℕ
total f [] = 0
total f (x ∷ xs) = f x + total f xs

-- Each number from `low` on below `high` is counted once, and no other number.
pub record EachOnce (count : ℕ → ℕ) (low high : ℕ) : Type 0 where
  pub inside : (x : ℕ) → low ≤ x → x < high → count x ≡ 1
  pub below : (x : ℕ) → x < low → count x ≡ 0
  pub above : (x : ℕ) → high ≤ x → count x ≡ 0

-- the numbers from `low` on, this many of them
abbrev pub numbers_from : ℕ → ℕ → List ℕ
numbers_from low zero = []
numbers_from low (suc n) = low ∷ numbers_from (suc low) n

module _ {E : Type 0} where
  -- ys begins with xs
  abbrev pub IsBeginning : List E → List E → Type 0
  IsBeginning xs ys = (rest : List E) × (ys ≡ xs ++ rest)

  -- the greatest number that the entries acknowledge
  abbrev pub greatest : (E → ℕ) → List E → ℕ
  greatest front [] = 0
  greatest front (e ∷ es) = max (front e) (greatest front es)

  -- the places of entries that have their place beside them
  abbrev pub places : List (ℕ × E) → List ℕ
  places placed = map (λ p. p.0) placed

  -- each of these entries stands in the history, at its place
  abbrev pub StandIn : List E → List (ℕ × E) → Type 0
  StandIn log [] = Unit {0}
  StandIn log (p ∷ ps) = (slice_get log p.0 ≡ Some p.1) × StandIn log ps

  -- entries with their places, the first of which is given
  abbrev pub placed : ℕ → List E → List (ℕ × E)
  placed k [] = []
  placed k (e ∷ es) = (k, e) ∷ placed (suc k) es

  -- what a history has after another one, with its places
  abbrev pub added : List E → List E → List (ℕ × E)
  added old new = placed (length old) (drop (length old) new)

  -- the longer of two histories
  abbrev pub longer : List E → List E → List E
  longer xs ys = cond (nat_lt (length xs) (length ys)) ys xs

  -- One turn made this of a history and a count of empty turns: one more entry, which acknowledges this number, or one more empty turn and 0.
  abbrev pub IsOneTurn : (E → ℕ) → List E → ℕ → List E → ℕ → ℕ → Type 0
  IsOneTurn front log empty log' empty' number =
      ((e : E) × (log' ≡ log ++ e ∷ []) × (empty' ≡ empty) × (number ≡ front e))
      ⊎ ((log' ≡ log) × (empty' ≡ (empty + 1) % 2 ^ 64) × (number ≡ 0))
