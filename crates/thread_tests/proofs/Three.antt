-- Three passes, and two stations.
use Rattle.std.proofs.Common.{◌≡◌, ℕ, zero, suc, ◌+◌, ◌<◌, List, [], ◌∷◌, length, slice_index_or, sym, ap, subst, arith}
use Rattle.std.specs.Prelude.{All}
use Rattle.turn_lock.specs.Turning.{times}

-- three passes have the numbers of all
pub three_numbers : (number : ℕ) (one two three : List ℕ) → one ≡ 0 ∷ [] → two ≡ 1 ∷ [] → three ≡ 2 ∷ [] → number < 3 → 0 < times number one + (times number two + (times number three + 0))
three_numbers zero one two three a b c lt = omega (arith, ap (times zero) a)
three_numbers (suc zero) one two three a b c lt = omega (arith, ap (times (suc zero)) b)
three_numbers (suc (suc zero)) one two three a b c lt = omega (arith, ap (times (suc (suc zero))) c)
three_numbers (suc (suc (suc n))) one two three a b c lt = absurd (omega arith)

both_at : {X : Type 0} (P : X → Type 0) (a b : X) → P a → P b → (k : ℕ) (d : X) → k < length (a ∷ b ∷ []) → P (slice_index_or (a ∷ b ∷ []) k d)
both_at P a b pa pb zero d lt = pa
both_at P a b pa pb (suc zero) d lt = pb
both_at P a b pa pb (suc (suc k)) d lt = absurd (omega arith)

-- what holds of both items holds of all
pub both_have : {X : Type 0} (P : X → Type 0) (xs : List X) (a b : X) → xs ≡ a ∷ b ∷ [] → P a → P b → All P xs
both_have P xs a b is pa pb = subst (All P) (sym is) (both_at P a b pa pb)
