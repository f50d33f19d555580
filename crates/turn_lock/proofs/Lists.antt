-- The longer of two histories, the greatest number of a list, and what holds of each item.
use Rattle.std.proofs.Common.{◌≡◌, ℕ, zero, suc, ◌≤◌, ◌⊎◌, true, false, List, [], ◌∷◌, ◌++◌, length, drop, max, cond, sym, refl, ap, ◌∙◌, subst, inl, inr, ⊎_elim, arith, Option, Some, None, slice_get}
use lib.Seq.{drop-append-le}
use Rattle.std.proofs.lemmas.Option.{none-some}
use Rattle.std.specs.List.{AllByRecursion}
use Rattle.turn_lock.specs.Turning.{IsBeginning, greatest, longer}
use Rattle.turn_lock.proofs.TurnLaws.{begins_more}

module _ {E : Type 0} where
  pub begins_longer : (xs ys zs : List E) → IsBeginning xs zs → IsBeginning ys zs → IsBeginning (longer xs ys) zs
  begins_longer xs ys zs a b = elim (Rattle.std.specs.Prelude.nat_lt (length xs) (length ys)) as (λ c. IsBeginning (cond c ys xs) zs) [ true ↦ b | false ↦ a ]

  -- prefixes of one history are prefixes of any that continues it
  pub begin_more : (log more log' : List E) → log' ≡ log ++ more → (parts : List (List E)) → AllByRecursion (λ seen. IsBeginning seen log) parts → AllByRecursion (λ seen. IsBeginning seen log') parts
  begin_more log more log' is [] all = tt
  begin_more log more log' is (x ∷ xs) all = (subst (IsBeginning x) (sym is) (begins_more x log more all.0), begin_more log more log' is xs all.1)

  pub begin_append : (log : List E) (xs ys : List (List E)) → AllByRecursion (λ seen. IsBeginning seen log) xs → AllByRecursion (λ seen. IsBeginning seen log) ys → AllByRecursion (λ seen. IsBeginning seen log) (xs ++ ys)
  begin_append log [] ys a b = b
  begin_append log (x ∷ xs) ys a b = (a.0, begin_append log xs ys a.1 b)

  pub all_on : (p q : E → Type 0) → ((e : E) → p e → q e) → (xs : List E) → AllByRecursion p xs → AllByRecursion q xs
  all_on p q on [] all = tt
  all_on p q on (x ∷ xs) all = (on x all.0, all_on p q on xs all.1)

  pub all_append : (p : E → Type 0) (xs ys : List E) → AllByRecursion p xs → AllByRecursion p ys → AllByRecursion p (xs ++ ys)
  all_append p [] ys a b = b
  all_append p (x ∷ xs) ys a b = (a.0, all_append p xs ys a.1 b)

  pub length_longer : (n : ℕ) (xs ys : List E) → n ≤ length xs → n ≤ length ys → n ≤ length (longer xs ys)
  length_longer n xs ys a b = elim (Rattle.std.specs.Prelude.nat_lt (length xs) (length ys)) as (λ c. n ≤ length (cond c ys xs)) [ true ↦ b | false ↦ a ]

  pub get_last : (xs : List E) (e : E) → slice_get (xs ++ e ∷ []) (length xs) ≡ Some e
  get_last [] e = refl
  get_last (x ∷ xs) e = get_last xs e

  pub greatest_more : (front : E → ℕ) (xs : List E) (e : E) → greatest front (xs ++ e ∷ []) ≡ max (greatest front xs) (front e)
  greatest_more front [] e = omega arith
  greatest_more front (x ∷ xs) e = omega (arith, greatest_more front xs e)

  pub greatest_since : (front : E → ℕ) (n : ℕ) (log : List E) (e : E) → n ≤ length log → greatest front (drop n (log ++ e ∷ [])) ≡ max (greatest front (drop n log)) (front e)
  greatest_since front n log e h = ap (greatest front) (drop-append-le n log (e ∷ []) h) ∙ greatest_more front (drop n log) e

abbrev pub value_or : {A : Type 0} → Option A → A → A
value_or (Some x) d = x
value_or None d = d

get_push : {X : Type 0} (xs : List X) (y p : X) (i : ℕ) → slice_get (xs ++ y ∷ []) i ≡ Some p → (slice_get xs i ≡ Some p) ⊎ ((i ≡ length xs) × (slice_get (y ∷ []) 0 ≡ Some p))
get_push [] y p zero at = inr (refl, at)
get_push [] y p (suc i) at = absurd (none-some p at)
get_push (x ∷ xs) y p zero at = inl at
get_push (x ∷ xs) y p (suc i) at = ⊎_elim inl (λ t. inr (omega (arith, t.0), t.1)) (get_push xs y p i at)

-- what holds of each item and of one more holds of all
pub each_push : {X : Type 0} (P : ℕ → X → Type 0) (xs : List X) (y : X) → ((i : ℕ) (p : X) → slice_get xs i ≡ Some p → P i p) → P (length xs) y → (i : ℕ) (p : X) → slice_get (xs ++ y ∷ []) i ≡ Some p → P i p
each_push P xs y old new i p at = ⊎_elim (old i p) (λ t. subst (λ n. P n p) (sym t.0) (subst (P (length xs)) (ap (λ o. value_or o y) t.1) new)) (get_push xs y p i at)
