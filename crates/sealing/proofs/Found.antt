-- Where an object goes that was searched for among those that move.
use Rattle.std.proofs.Common.{◌≡◌, ◌≢◌, ℕ, zero, suc, ◌<◌, List, [], ◌∷◌, zip, length, get_or, Some, None, refl, ◌∙◌, subst, arith}
use Rattle.graph_words.specs.Promotion.{moved}
use Rattle.graph_words.proofs.Places.Moves.{moved-head, moved-rest}

-- one that stands at a place, and at none before, goes to the address at that place
pub moved_at : (xs ns : List ℕ) (i at : ℕ) → i < length xs → length ns ≡ length xs → get_or xs i 0 ≡ at → ((j : ℕ) → j < i → get_or xs j 0 ≢ at)
    → moved (zip xs ns) at ≡ Some (get_or ns i 0)
moved_at [] ns i at within count is first = absurd (omega arith)
moved_at (x ∷ xs) [] i at within count is first = absurd (cc count)
moved_at (x ∷ xs) (n ∷ ns) zero at within count is first = subst (λ (y : ℕ). moved ((x, n) ∷ zip xs ns) y ≡ Some n) is (moved-head (x, n) (zip xs ns))
moved_at (x ∷ xs) (n ∷ ns) (suc i) at within count is first =
    moved-rest (x, n) (zip xs ns) at (first 0 (omega arith)) ∙ moved_at xs ns i at (omega arith) (omega arith) is (λ j low. first (suc j) (omega arith))

-- one that stands at no place doesn't move
pub moved_nowhere : (xs ns : List ℕ) (at : ℕ) → length ns ≡ length xs → ((j : ℕ) → j < length xs → get_or xs j 0 ≢ at) → moved (zip xs ns) at ≡ None
moved_nowhere [] ns at count none = refl
moved_nowhere (x ∷ xs) [] at count none = absurd (cc count)
moved_nowhere (x ∷ xs) (n ∷ ns) at count none = moved-rest (x, n) (zip xs ns) at (none 0 (omega arith)) ∙ moved_nowhere xs ns at (omega arith) (λ j low. none (suc j) (omega arith))
