-- Laws of lists.
use Rattle.std.proofs.Common.{ℕ, zero, suc, List, [], ◌∷◌, ◌++◌}
use Rattle.std.specs.Prelude.{slice_set, slice_index_or}
use Rattle.std.specs.List.{AllByRecursion}

-- what holds of two lists together holds of the second
pub AllByRecursion-behind : {X : Type 0} (P : X → Type 0) (xs ys : List X) → AllByRecursion P (xs ++ ys) → AllByRecursion P ys
AllByRecursion-behind P [] ys h = h
AllByRecursion-behind P (x ∷ xs) ys h = AllByRecursion-behind P xs ys h.1

-- it still does where one is written of which it holds
pub AllByRecursion-set : {X : Type 0} (P : X → Type 0) (xs : List X) (i : ℕ) (x : X) → AllByRecursion P xs → P x → AllByRecursion P (slice_set xs i x)
AllByRecursion-set P [] i x h p = tt
AllByRecursion-set P (y ∷ xs) zero x h p = (p, h.1)
AllByRecursion-set P (y ∷ xs) (suc i) x h p = (h.0, AllByRecursion-set P xs i x h.1 p)

-- what holds of each holds of the one at a place, or of what stands for those past the last
pub AllByRecursion-at : {X : Type 0} (P : X → Type 0) (xs : List X) (i : ℕ) (o : X) → P o → AllByRecursion P xs → P (slice_index_or xs i o)
AllByRecursion-at P [] i o p h = p
AllByRecursion-at P (x ∷ xs) zero o p h = h.0
AllByRecursion-at P (x ∷ xs) (suc i) o p h = AllByRecursion-at P xs i o p h.1

-- what follows of each follows of all
pub AllByRecursion-map : {X : Type 0} (P Q : X → Type 0) (xs : List X) → ((x : X) → P x → Q x) → AllByRecursion P xs → AllByRecursion Q xs
AllByRecursion-map P Q [] f h = tt
AllByRecursion-map P Q (x ∷ xs) f h = (f x h.0, AllByRecursion-map P Q xs f h.1)
