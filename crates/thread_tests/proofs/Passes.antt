-- Passes that were lent to threads, and came back.
use Rattle.std.proofs.Common.{◌≡◌, ◌+◌, ◌<◌, ◌≤◌, ◌++◌, ℕ, zero, suc, List, [], ◌∷◌, length, take, drop, cond, get_or, refl, ap, ◌∙◌, arith, eq-eqb}
use Rattle.std.specs.List.{AllByRecursion}
use Rattle.turn_lock.specs.Turning.{times, total}

take_front : {X : Type 0} (xs ys : List X) → take (length xs) (xs ++ ys) ≡ xs
take_front [] ys = refl
take_front (x ∷ xs) ys = ap (λ l. x ∷ l) (take_front xs ys)

-- A list of which each item was written is what was written.
pub written_back : {X : Type 0} (new old : List X) (n : ℕ) → n ≡ length new → take n (new ++ drop (length new) old) ≡ new
written_back new old n is = ap (λ (k : ℕ). take k (new ++ drop (length new) old)) is ∙ take_front new (drop (length new) old)

-- what holds of the item at each place holds of each item
pub each_has : {X : Type 0} (P : X → Type 0) (xs : List X) → ((i : ℕ) (d : X) → i < length xs → P (get_or xs i d)) → AllByRecursion P xs
each_has P [] at = tt
each_has P (x ∷ xs) at = (at 0 x (omega arith), each_has P xs (λ i d lt. at (suc i) d (omega (arith, lt))))

total_at : {X : Type 0} (f : X → ℕ) (xs : List X) (i : ℕ) (d : X) → i < length xs → f (get_or xs i d) ≤ total f xs
total_at f [] i d lt = absurd (omega arith)
total_at f (x ∷ xs) zero d lt = omega arith
total_at f (x ∷ xs) (suc i) d lt = omega (arith, total_at f xs i d (omega (arith, lt)))

-- Where the item at each place has the number of that place, each number stands in one of them.
pub each_number : {X : Type 0} (numbers : X → List ℕ) (xs : List X) → ((i : ℕ) (d : X) → i < length xs → numbers (get_or xs i d) ≡ i ∷ [])
    → (number : ℕ) → number < length xs → 0 < total (λ x. times number (numbers x)) xs
each_number numbers [] at number lt = absurd (omega arith)
each_number numbers (x ∷ xs) at number lt =
    let own : times number (numbers (get_or (x ∷ xs) number x)) ≡ 1 = ap (times number) (at number x lt) ∙ ap (λ b. cond b 1 0 + 0) (eq-eqb number number refl) in
    omega (arith, own, total_at (λ x. times number (numbers x)) (x ∷ xs) number x lt)
