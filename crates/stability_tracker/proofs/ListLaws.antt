-- Laws of lists of numbers: filters by two tests, and lists that ascend.
use Rattle.std.proofs.Common.{◌≡◌, ℕ, zero, suc, ◌<◌, ◌≤◌, ◌⊎◌, inl, inr, List, [], ◌∷◌, length, Bool, true, false, cond, Some, refl, sym, ap, ◌∙◌, subst, arith, get_or}
use Rattle.std.specs.Prelude.{slice_get, Contains, filter}
use Rattle.std.specs.List.{list_any}
use Rattle.std.specs.List.Sorted.{IsStrictlyIncreasing}
use Rattle.std.proofs.lemmas.Bool.{or_cases, or_left, or_right}
use Rattle.std.proofs.lemmas.Map.Keys.{sorted_from_strictly_increasing, IsStrictlyIncreasing-from_sorted, sorted_tail, below_from_sorted}
use Rattle.std.proofs.lemmas.Option.{same_Some, slice_get-get_or}
use Rattle.std.specs.Ordering.{nat_cmp}
use Rattle.std.proofs.lemmas.Grind.{get_or_default_zero}
use Rattle.object_layout.proofs.WalkLaws.{Contains-head, Contains-rest, Contains-cases, Contains-none}

-- Tests of lists.

-- if some element passes a test there is one
pub any_at : (p : ℕ → Bool) (xs : List ℕ) → list_any p xs ≡ true → (i : ℕ) × (x : ℕ) × (slice_get xs i ≡ Some x) × (p x ≡ true)
any_at p [] is = absurd (cc is)
any_at p (x ∷ xs) is = elim (or_cases (p x) (list_any p xs) is) [
  | inl here ↦ (zero, x, refl, here)
  | inr later ↦ let found = any_at p xs later in (suc found.0, found.1, found.2, found.3)
]

-- and conversely
pub at_any : (p : ℕ → Bool) (xs : List ℕ) (i x : ℕ) → slice_get xs i ≡ Some x → p x ≡ true → list_any p xs ≡ true
at_any p [] i x is passes = absurd (cc is)
at_any p (y ∷ xs) zero x is passes = or_left (p y) (list_any p xs) (ap p (same_Some y x is) ∙ passes)
at_any p (y ∷ xs) (suc i) x is passes = or_right (p y) (list_any p xs) (at_any p xs i x is passes)

-- what is in a list has a place in it
pub place_of : (xs : List ℕ) (x : ℕ) → Contains xs x → (i : ℕ) × (slice_get xs i ≡ Some x)
place_of xs x (i, within, is) = (i, slice_get-get_or xs i x within ∙ ap Some is)

-- Filters.

kept_cases : (p : ℕ → Bool) (y : ℕ) (xs : List ℕ) (x : ℕ) (b : Bool) → p y ≡ b → (Contains (filter p xs) x → Contains xs x × (p x ≡ true))
    → Contains (cond b (y ∷ filter p xs) (filter p xs)) x → Contains (y ∷ xs) x × (p x ≡ true)
kept_cases p y xs x true passes later has = elim (Contains-cases y (filter p xs) x has) [
  | inl here ↦ (subst (λ (z : ℕ). Contains (y ∷ xs) z) here (Contains-head y xs), ap p (sym here) ∙ passes)
  | inr behind ↦ let rest = later behind in (Contains-rest y xs x rest.0, rest.1)
]
kept_cases p y xs x false fails later has = let rest = later has in (Contains-rest y xs x rest.0, rest.1)

-- what a filter keeps was there and passes
pub Contains-from_filter : (p : ℕ → Bool) (xs : List ℕ) (x : ℕ) → Contains (filter p xs) x → Contains xs x × (p x ≡ true)
Contains-from_filter p [] x has = absurd (Contains-none x has)
Contains-from_filter p (y ∷ xs) x has = kept_cases p y xs x (p y) refl (Contains-from_filter p xs x) has

keep_cases : (p : ℕ → Bool) (y : ℕ) (xs : List ℕ) (x : ℕ) (b : Bool) → p y ≡ b → (y ≡ x) ⊎ Contains (filter p xs) x → p x ≡ true → Contains (cond b (y ∷ filter p xs) (filter p xs)) x
keep_cases p y xs x true passes (inl here) is = subst (λ (z : ℕ). Contains (y ∷ filter p xs) z) here (Contains-head y (filter p xs))
keep_cases p y xs x true passes (inr behind) is = Contains-rest y (filter p xs) x behind
keep_cases p y xs x false fails (inl here) is = let clash = sym fails ∙ ap p here ∙ is in absurd (cc clash)
keep_cases p y xs x false fails (inr behind) is = behind

-- and conversely
pub Contains-filter : (p : ℕ → Bool) (xs : List ℕ) (x : ℕ) → Contains xs x → p x ≡ true → Contains (filter p xs) x
Contains-filter p [] x has is = absurd (Contains-none x has)
Contains-filter p (y ∷ xs) x has is = elim (Contains-cases y xs x has) [
  | inl here ↦ keep_cases p y xs x (p y) refl (inl here) is
  | inr behind ↦ keep_cases p y xs x (p y) refl (inr (Contains-filter p xs x behind is)) is
]

-- a filter keeps no more than there is
pub length-filter_le : (p : ℕ → Bool) (xs : List ℕ) → length (filter p xs) ≤ length xs
length-filter_le p [] = omega arith
length-filter_le p (x ∷ xs) =
    let rest = length-filter_le p xs in
    elim (p x) as (λ b. length (cond b (x ∷ filter p xs) (filter p xs)) ≤ length (x ∷ xs)) [ true ↦ omega arith | false ↦ omega arith ]

-- by a test that lets more pass a filter keeps the same, or more
pub filter_grows : (p q : ℕ → Bool) (xs : List ℕ) → ((x : ℕ) → p x ≡ true → q x ≡ true) → (filter q xs ≡ filter p xs) ⊎ (length (filter p xs) < length (filter q xs))
filter_grows p q [] more = inl refl
filter_grows p q (x ∷ xs) more = grown (p x) (q x) (more x) (filter_grows p q xs more)
  where
    grown : (a b : Bool) → (a ≡ true → b ≡ true) → (filter q xs ≡ filter p xs) ⊎ (length (filter p xs) < length (filter q xs))
        → (cond b (x ∷ filter q xs) (filter q xs) ≡ cond a (x ∷ filter p xs) (filter p xs)) ⊎ (length (cond a (x ∷ filter p xs) (filter p xs)) < length (cond b (x ∷ filter q xs) (filter q xs)))
    grown true true also (inl same) = inl (ap (λ ys. x ∷ ys) same)
    grown true true also (inr longer) = inr (omega arith)
    grown true false also rest = let clash = also refl in absurd (cc clash)
    grown false true also (inl same) = inr (let long = ap length same in omega arith)
    grown false true also (inr longer) = inr (omega arith)
    grown false false also rest = rest

-- Lists that ascend.

-- what follows the first is greater
pub rises_above : (x : ℕ) (xs : List ℕ) (y : ℕ) → IsStrictlyIncreasing (x ∷ xs) → Contains xs y → x < y
rises_above x xs y rises (k, within, is) =
    let above : x < get_or xs k 0 = below_from_sorted (x ∷ xs) zero (suc k) 0 (sorted_from_strictly_increasing (x ∷ xs) rises) (omega arith) (omega arith) in
    let there = sym (get_or_default_zero xs k y within) ∙ is in
    omega arith

-- and ascends too
pub rises_on : (x : ℕ) (xs : List ℕ) → IsStrictlyIncreasing (x ∷ xs) → IsStrictlyIncreasing xs
rises_on x xs rises = IsStrictlyIncreasing-from_sorted xs (sorted_tail nat_cmp x xs (sorted_from_strictly_increasing (x ∷ xs) rises))

same_first : (x : ℕ) (xs : List ℕ) (y : ℕ) (ys : List ℕ) → IsStrictlyIncreasing (x ∷ xs) → IsStrictlyIncreasing (y ∷ ys) → Contains (y ∷ ys) x → Contains (x ∷ xs) y → x ≡ y
same_first x xs y ys one other has has' = elim (Contains-cases y ys x has) [
  | inl here ↦ sym here
  | inr behind ↦ elim (Contains-cases x xs y has') [
    | inl here' ↦ here'
    | inr behind' ↦ let below = rises_above y ys x other behind in let above = rises_above x xs y one behind' in absurd (omega arith)
  ]
]

same_rest : (x : ℕ) (xs : List ℕ) (y : ℕ) (ys : List ℕ) → x ≡ y → IsStrictlyIncreasing (x ∷ xs) → ((z : ℕ) → Contains (x ∷ xs) z → Contains (y ∷ ys) z) → (z : ℕ) → Contains xs z → Contains ys z
same_rest x xs y ys same rises also z has = elim (Contains-cases y ys z (also z (Contains-rest x xs z has))) [
  | inl here ↦ let above = rises_above x xs z rises has in absurd (omega arith)
  | inr behind ↦ behind
]

-- two lists that ascend and have the same elements are one
pub same_rising : (xs ys : List ℕ) → IsStrictlyIncreasing xs → IsStrictlyIncreasing ys → ((x : ℕ) → Contains xs x → Contains ys x) → ((x : ℕ) → Contains ys x → Contains xs x) → xs ≡ ys
same_rising [] [] one other also back = refl
same_rising [] (y ∷ ys) one other also back = absurd (Contains-none y (back y (Contains-head y ys)))
same_rising (x ∷ xs) [] one other also back = absurd (Contains-none x (also x (Contains-head x xs)))
same_rising (x ∷ xs) (y ∷ ys) one other also back =
    let same = same_first x xs y ys one other (also x (Contains-head x xs)) (back y (Contains-head y ys)) in
    ap (λ z. z ∷ xs) same
    ∙ ap (λ zs. y ∷ zs) (same_rising xs ys (rises_on x xs one) (rises_on y ys other) (same_rest x xs y ys same one also) (same_rest y ys x xs (sym same) other back))
