-- Laws of lists.
use Rattle.std.proofs.Common.{ℕ, zero, suc, ◌<◌, List, [], ◌∷◌, ◌++◌, length, get_or, reverse, arith}
use Rattle.std.proofs.lemmas.List.{reverse-append}
use Rattle.std.specs.List.{AllByRecursion}

-- what holds of each element of two lists holds of each of both together
pub AllByRecursion-append : {X : Type 0} (P : X → Type 0) (xs ys : List X) → AllByRecursion P xs → AllByRecursion P ys → AllByRecursion P (xs ++ ys)
AllByRecursion-append P [] ys h k = k
AllByRecursion-append P (x ∷ xs) ys h k = (h.0, AllByRecursion-append P xs ys h.1 k)

-- and of the one at a place
pub AllByRecursion-at : {X : Type 0} (P : X → Type 0) (xs : List X) (i : ℕ) (d : X) → i < length xs → AllByRecursion P xs → P (get_or xs i d)
AllByRecursion-at P [] i d lt all = absurd (omega arith)
AllByRecursion-at P (x ∷ xs) zero d lt all = all.0
AllByRecursion-at P (x ∷ xs) (suc i) d lt all = AllByRecursion-at P xs i d (omega arith) all.1

-- what holds of each holds of each in a front
pub AllByRecursion-front : {X : Type 0} (P : X → Type 0) (xs ys : List X) → AllByRecursion P (xs ++ ys) → AllByRecursion P xs
AllByRecursion-front P [] ys h = tt
AllByRecursion-front P (x ∷ xs) ys h = (h.0, AllByRecursion-front P xs ys h.1)

-- and after it
pub AllByRecursion-behind : {X : Type 0} (P : X → Type 0) (xs ys : List X) → AllByRecursion P (xs ++ ys) → AllByRecursion P ys
AllByRecursion-behind P [] ys h = h
AllByRecursion-behind P (x ∷ xs) ys h = AllByRecursion-behind P xs ys h.1

-- and in the other order
pub AllByRecursion-reverse : {X : Type 0} (P : X → Type 0) (xs : List X) → AllByRecursion P xs → AllByRecursion P (reverse xs)
AllByRecursion-reverse P [] h = tt
AllByRecursion-reverse P (x ∷ xs) h = rw (reverse-append (x ∷ []) xs) (AllByRecursion-append P (reverse xs) (x ∷ []) (AllByRecursion-reverse P xs h.1) (h.0, tt))

-- what follows of each
pub AllByRecursion-map : {X : Type 0} (P Q : X → Type 0) (xs : List X) → ((x : X) → P x → Q x) → AllByRecursion P xs → AllByRecursion Q xs
AllByRecursion-map P Q [] f h = tt
AllByRecursion-map P Q (x ∷ xs) f h = (f x h.0, AllByRecursion-map P Q xs f h.1)
