-- Laws of lists: what is at a place.
use Rattle.std.proofs.Common.{Any, Contains, List, Some, [], ap, arith, inl, inr, length, map, refl, slice_get, slice_set, subst, suc, zero, ℕ, ◌++◌, ◌∷◌, ◌≡◌, ◌⊎◌}
use Rattle.std.proofs.lemmas.Option.{get_or_from_slice_get, same_Some, slice_get_within}
use Rattle.std.specs.List.{AllByRecursion}

-- what holds of each element holds of the one that is read
pub AllByRecursion-get : {X : Type 0} (P : X → Type 0) (xs : List X) (i : ℕ) (x : X) → AllByRecursion P xs → slice_get xs i ≡ Some x → P x
AllByRecursion-get P [] i x all is = cc
AllByRecursion-get P (y ∷ xs) zero x all is = subst P (same_Some y x is) all.0
AllByRecursion-get P (y ∷ xs) (suc i) x all is = AllByRecursion-get P xs i x all.1 is

-- and of each, if it holds of each that is read
pub AllByRecursion-from_get : {X : Type 0} (P : X → Type 0) (xs : List X) → ((i : ℕ) (x : X) → slice_get xs i ≡ Some x → P x) → AllByRecursion P xs
AllByRecursion-from_get P [] each = tt
AllByRecursion-from_get P (x ∷ xs) each = (each zero x refl, AllByRecursion-from_get P xs (λ i. each (suc i)))

-- a mapped list has at each place the function's value of what was there
pub got_of_map : {X Y : Type 0} (f : X → Y) (xs : List X) (i : ℕ) (y : Y) → slice_get (map f xs) i ≡ Some y → (x : X) × (slice_get xs i ≡ Some x) × (f x ≡ y)
got_of_map f [] i y is = cc
got_of_map f (x ∷ xs) zero y is = (x, refl, same_Some (f x) y is)
got_of_map f (x ∷ xs) (suc i) y is = got_of_map f xs i y is

-- what is read from a list is in it
pub Contains-get : {X : Type 0} (xs : List X) (i : ℕ) (x : X) → slice_get xs i ≡ Some x → Contains xs x
Contains-get xs i x is = (i, slice_get_within xs i x is, get_or_from_slice_get xs i x x is)

-- what is read where a value was written among others is at its place, or stood there
pub got_of_set : {X : Type 0} (xs : List X) (i j : ℕ) (x y : X) → slice_get (slice_set xs i x) j ≡ Some y → (j ≡ i) ⊎ (slice_get xs j ≡ Some y)
got_of_set [] i j x y is = inr is
got_of_set (z ∷ xs) zero zero x y is = inl refl
got_of_set (z ∷ xs) zero (suc j) x y is = inr is
got_of_set (z ∷ xs) (suc i) zero x y is = inr is
got_of_set (z ∷ xs) (suc i) (suc j) x y is = elim (got_of_set xs i j x y is) [
  | inl same ↦ inl (ap suc same)
  | inr was ↦ inr was
]

-- one is the head of a list
pub Any-head : {X : Type 0} (P : X → Type 0) (x : X) (xs : List X) → P x → Any P (x ∷ xs)
Any-head P x xs holds = (0, x, omega arith, refl, holds)

-- or in its rest
pub Any-rest : {X : Type 0} (P : X → Type 0) (x : X) (xs : List X) → Any P xs → Any P (x ∷ xs)
Any-rest P x xs (k, y, within, is, holds) = (suc k, y, omega arith, is, holds)

-- what is read from a list with one more element is of the list, or that one
pub got_of_push : {X : Type 0} (xs : List X) (x : X) (i : ℕ) (y : X) → slice_get (xs ++ x ∷ []) i ≡ Some y → (slice_get xs i ≡ Some y) ⊎ ((i ≡ length xs) × (x ≡ y))
got_of_push [] x zero y is = inr (refl, same_Some x y is)
got_of_push [] x (suc i) y is = cc
got_of_push (z ∷ xs) x zero y is = inl is
got_of_push (z ∷ xs) x (suc i) y is = elim (got_of_push xs x i y is) [
  | inl there ↦ inl there
  | inr last ↦ inr (ap suc last.0, last.1)
]
