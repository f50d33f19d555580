-- Elements of a list that are replaced in place, one after another.
use Rattle.std.proofs.Common.{◌≡◌, ℕ, zero, suc, ◌<◌, List, [], ◌∷◌, ◌++◌, length, map, take, drop, get_or, set, ap, arith}

-- the next element is replaced
pub put_mapped : {X : Type 0} (f : X → X) (xs : List X) (k : ℕ) (x d : X) → k < length xs → x ≡ get_or (map f (take k xs) ++ drop k xs) k d
    → set (map f (take k xs) ++ drop k xs) k (f x) ≡ map f (take (suc k) xs) ++ drop (suc k) xs
put_mapped f [] k x d within same = absurd (omega arith)
put_mapped f (y ∷ xs) zero x d within same = ap (λ z. f z ∷ xs) same
put_mapped f (y ∷ xs) (suc k) x d within same = ap (λ l. f y ∷ l) (put_mapped f xs k x d (omega arith) same)
