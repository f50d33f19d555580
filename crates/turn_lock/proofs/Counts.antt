-- Totals over lists that change at one place, and numbers that stand once each.
use Rattle.std.proofs.Common.{◌≡◌, ℕ, zero, suc, ◌+◌, ◌<◌, ◌≤◌, ◌≢◌, List, [], ◌∷◌, ◌++◌, length, cond, set, sym, refl, ap, ap₂, ◌∙◌, ◌-◌, arith, eq-eqb, ne_eqb}
use mathlib.Core.Logic.{dite}
use mathlib.Core.Option.{some, some-injective, some-ne-none}
use native.Mathlib.Decide.{ℕ_discrete}
use lib.ListN.{get_elem?}
use Rattle.turn_lock.specs.Turning.{one, times, total, EachOnce, numbers_from}

pub one_same : (x y : ℕ) → x ≡ y → one x y ≡ 1
one_same x y e = ap (λ b. cond b 1 0) (eq-eqb x y e)

pub one_other : (x y : ℕ) → x ≢ y → one x y ≡ 0
one_other x y n = ap (λ b. cond b 1 0) (ne_eqb x y n)

pub at_within : {A : Type 0} (l : List A) (i : ℕ) (a : A) → get_elem? l i ≡ some a → i < length l
at_within [] i a e = absurd (some-ne-none a (sym e))
at_within (x ∷ xs) zero a e = omega arith
at_within (x ∷ xs) (suc i) a e = omega (arith, at_within xs i a e)

module _ {A : Type 0} (g : A → ℕ) where
  pub total_append : (l m : List A) → total g (l ++ m) ≡ total g l + total g m
  total_append [] m = omega arith
  total_append (x ∷ xs) m = omega (arith, total_append xs m)

  pub total_set : (l : List A) (j : ℕ) (v w : A) → get_elem? l j ≡ some v → total g (set l j w) + g v ≡ total g l + g w
  total_set [] j v w e = absurd (some-ne-none v (sym e))
  total_set (x ∷ xs) zero v w e = omega (arith, ap g (some-injective x v e))
  total_set (x ∷ xs) (suc j) v w e = omega (arith, total_set xs j v w e)

  pub total_same : (l : List A) (j : ℕ) (v w : A) → get_elem? l j ≡ some v → g w ≡ g v → total g (set l j w) ≡ total g l
  total_same l j v w e h = omega (arith, total_set l j v w e)

  pub term_le : (l : List A) (j : ℕ) (v : A) → get_elem? l j ≡ some v → g v ≤ total g l
  term_le [] j v e = absurd (some-ne-none v (sym e))
  term_le (x ∷ xs) zero v e = omega (arith, ap g (some-injective x v e))
  term_le (x ∷ xs) (suc j) v e = omega (arith, term_le xs j v e)

  pub terms_le : (l : List A) (j k : ℕ) (v u : A) → k ≢ j → get_elem? l j ≡ some v → get_elem? l k ≡ some u → g v + g u ≤ total g l
  terms_le [] j k v u n e d = absurd (some-ne-none v (sym e))
  terms_le (x ∷ xs) zero zero v u n e d = absurd (n refl)
  terms_le (x ∷ xs) zero (suc k) v u n e d = omega (arith, ap g (some-injective x v e), term_le xs k u d)
  terms_le (x ∷ xs) (suc j) zero v u n e d = omega (arith, ap g (some-injective x u d), term_le xs j v e)
  terms_le (x ∷ xs) (suc j) (suc k) v u n e d = omega (arith, terms_le xs j k v u (λ h. n (ap suc h)) e d)

  pub total_le : (f : A → ℕ) (l : List A) → ((j : ℕ) (v : A) → get_elem? l j ≡ some v → g v ≤ f v) → total g l ≤ total f l
  total_le f [] h = omega arith
  total_le f (x ∷ xs) h = omega (arith, h 0 x refl, total_le f xs (λ j v e. h (suc j) v e))

  pub total_none : (l : List A) → ((j : ℕ) (v : A) → get_elem? l j ≡ some v → g v ≡ 0) → total g l ≡ 0
  total_none [] h = refl
  total_none (x ∷ xs) h = omega (arith, h 0 x refl, total_none xs (λ j v e. h (suc j) v e))

  -- if all others count nothing, one counts for all
  pub total_alone : (l : List A) (j : ℕ) (v : A) → get_elem? l j ≡ some v → ((k : ℕ) (u : A) → k ≢ j → get_elem? l k ≡ some u → g u ≡ 0) → total g l ≡ g v
  total_alone [] j v e h = absurd (some-ne-none v (sym e))
  total_alone (x ∷ xs) zero v e h = omega (arith, ap g (some-injective x v e), total_none xs (λ k u at. h (suc k) u (λ d. omega arith) at))
  total_alone (x ∷ xs) (suc j) v e h = omega (arith, h 0 x (λ d. omega arith) refl, total_alone xs j v e (λ k u n at. h (suc k) u (λ d. n (omega arith)) at))

module _ (c c' : ℕ → ℕ) (low high : ℕ) where
  pub once_same : EachOnce c low high → ((x : ℕ) → c' x ≡ c x) → EachOnce c' low high
  once_same h e = record {
    inside = λ x a b. e x ∙ h.inside x a b;
    below = λ x a. e x ∙ h.below x a;
    above = λ x a. e x ∙ h.above x a;
  }

  pub once_grown : EachOnce c low high → low ≤ high → ((x : ℕ) → c' x ≡ c x + one x high) → EachOnce c' low (high + 1)
  once_grown h le e = record {
    inside = λ x a b. dite (ℕ_discrete x high) (λ s. omega (arith, e x, one_same x high s, h.above x (omega arith))) (λ n. omega (arith, e x, one_other x high n, h.inside x a (omega arith)));
    below = λ x a. omega (arith, e x, h.below x a, one_other x high (λ s. omega arith));
    above = λ x a. omega (arith, e x, h.above x (omega arith), one_other x high (λ s. omega arith));
  }

  pub once_passed : EachOnce c low high → ((x : ℕ) → c' x + one x low ≡ c x) → EachOnce c' (low + 1) high
  once_passed h e = record {
    inside = λ x a b. omega (arith, e x, one_other x low (λ s. omega arith), h.inside x (omega arith) b);
    below = λ x a. dite (ℕ_discrete x low) (λ s. dite (native.Mathlib.Decide.dec_le high x) (λ past. omega (arith, e x, h.above x past)) (λ n. omega (arith, e x, one_same x low s, h.inside x (omega arith) (omega arith)))) (λ n. omega (arith, e x, h.below x (omega arith)));
    above = λ x a. omega (arith, e x, h.above x a);
  }

  pub once_bound : EachOnce c low high → (x : ℕ) → c x ≤ 1
  once_bound h x = dite (native.Mathlib.Decide.dec_le high x) (λ past. omega (arith, h.above x past)) (λ n. dite (native.Mathlib.Decide.dec_le low x) (λ from. omega (arith, h.inside x from (omega arith))) (λ m. omega (arith, h.below x (omega arith))))

  pub once_inside : EachOnce c low high → (x : ℕ) → 0 < c x → (low ≤ x) × (x < high)
  once_inside h x pos = (
    dite (native.Mathlib.Decide.dec_le low x) (λ from. from) (λ m. absurd (omega (arith, h.below x (omega arith)))),
    dite (native.Mathlib.Decide.dec_le high x) (λ past. absurd (omega (arith, h.above x past))) (λ n. omega arith),
  )

pub length_numbers : (low n : ℕ) → length (numbers_from low n) ≡ n
length_numbers low zero = refl
length_numbers low (suc n) = omega (arith, length_numbers (suc low) n)

pub once_numbers : (low n : ℕ) → EachOnce (λ x. times x (numbers_from low n)) low (low + n)
once_numbers low zero = record { inside = λ x a b. absurd (omega arith); below = λ x a. refl; above = λ x a. refl }
once_numbers low (suc n) = let r = once_numbers (suc low) n in record {
  inside = λ x a b. dite (ℕ_discrete x low) (λ s. omega (arith, one_same x low s, r.below x (omega arith))) (λ d. omega (arith, one_other x low d, r.inside x (omega arith) (omega arith)));
  below = λ x a. omega (arith, one_other x low (λ s. omega arith), r.below x (omega arith));
  above = λ x a. omega (arith, one_other x low (λ s. omega arith), r.above x (omega arith));
}

pub next_number : (low n : ℕ) → 0 < n → numbers_from low n ≡ low ∷ numbers_from (low + 1) (n - 1)
next_number low zero h = absurd (omega arith)
next_number low (suc n) h = ap₂ (λ (a b : ℕ). low ∷ numbers_from a b) (omega arith) (omega arith)
