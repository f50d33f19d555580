-- Addresses that ascend, and sets of addresses.
use Rattle.std.proofs.Common.{◌≡◌, ◌⊎◌, ℕ, suc, ◌+◌, ◌<◌, ◌≤◌, inl, inr, true, List, [], ◌∷◌, get_or, refl, sym, ap, ◌∙◌, subst, arith}
use Rattle.std.specs.Prelude.{Contains}
use Rattle.std.specs.Ordering.{nat_cmp}
use Rattle.std.specs.FinSet.{FinSet, contains, contains-empty, empty, insert}
use Rattle.std.specs.List.Sorted.{IsStrictlyIncreasing}
use Rattle.std.proofs.lemmas.Bool.{cases_order}
use Rattle.heap_spaces.specs.Addresses.{with_all}
use Rattle.object_layout.specs.Walk.{AreEndToEnd}
use Rattle.object_layout.proofs.WalkLaws.{Contains-cases, Contains-head, Contains-none, Contains-rest}
use Rattle.collection_words.specs.Placed.{Ascend}
use Rattle.collection_words.proofs.Copy.Ascending.{ascend_from, ascend_low}
use Rattle.collection_words.proofs.Steps.Addresses.{contains-new, contains-other}

-- Lists.

-- objects that stand end to end ascend
pub ascend_ends : (words : List ℕ) (from : ℕ) (starts : List ℕ) (end : ℕ) → AreEndToEnd words from starts end → Ascend from starts
ascend_ends words from [] end ends = tt
ascend_ends words from (at ∷ rest) end (n, same, object, more) = (omega arith, ascend_from (at + 2 + n) (suc at) rest (omega arith) (ascend_ends words (at + 2 + n) rest end more))

-- and so does what increases strictly
pub ascend_strict : (low x : ℕ) (xs : List ℕ) → low ≤ x → IsStrictlyIncreasing (x ∷ xs) → Ascend low (x ∷ xs)
ascend_strict low x [] first up = (first, tt)
ascend_strict low x (y ∷ ys) first up =
    let less : x < y = up 0 (omega arith) in (
      first,
      ascend_strict (suc x) y ys (omega arith) (λ k within.
          let next : suc k + 1 ≡ suc (k + 1) = omega arith in
          subst (λ (j : ℕ). get_or (x ∷ y ∷ ys) (suc k) 0 < get_or (x ∷ y ∷ ys) j 0) next (up (suc k) (omega arith))),
    )

-- what ascends does so from each address on that none is below
pub ascend_raise : (less low : ℕ) (xs : List ℕ) → Ascend less xs → ((x : ℕ) → Contains xs x → low ≤ x) → Ascend low xs
ascend_raise less low [] up above = tt
ascend_raise less low (x ∷ xs) up above = (above x (Contains-head x xs), up.1)

head_low : (low x : ℕ) (xs : List ℕ) (at : ℕ) → Ascend low (x ∷ xs) → Contains (x ∷ xs) at → x ≤ at
head_low low x xs at up has = ascend_low x (x ∷ xs) at (omega arith, up.1) has

in_rest : (x y : ℕ) (xs ys : List ℕ) → y ≤ x → Ascend (suc x) xs → ((at : ℕ) → Contains (x ∷ xs) at → Contains (y ∷ ys) at) → (at : ℕ) → Contains xs at → Contains ys at
in_rest x y xs ys below up inside at has =
    let above = ascend_low (suc x) xs at up has in
    elim (Contains-cases y ys at (inside at (Contains-rest x xs at has))) [ inl here ↦ absurd (omega arith) | inr later ↦ later ]

-- lists that ascend are one, if each address of one is one of the other
pub ascend_one : (low less : ℕ) (xs ys : List ℕ) → Ascend low xs → Ascend less ys → ((at : ℕ) → Contains xs at → Contains ys at) → ((at : ℕ) → Contains ys at → Contains xs at) → xs ≡ ys
ascend_one low less [] [] up also one other = refl
ascend_one low less [] (y ∷ ys) up also one other = absurd (Contains-none y (other y (Contains-head y ys)))
ascend_one low less (x ∷ xs) [] up also one other = absurd (Contains-none x (one x (Contains-head x xs)))
ascend_one low less (x ∷ xs) (y ∷ ys) up also one other =
    let below = head_low less y ys x also (one x (Contains-head x xs)) in
    let above = head_low low x xs y up (other y (Contains-head y ys)) in
    let first : x ≡ y = omega arith in
    let rest = ascend_one (suc x) (suc y) xs ys up.1 also.1 (in_rest x y xs ys below up.1 one) (in_rest y x ys xs above also.1 other) in
    ap (λ (a : ℕ). a ∷ xs) first ∙ ap (λ (l : List ℕ). y ∷ l) rest

-- Sets.

one_more : (set : FinSet nat_cmp) (y x : ℕ) → contains (insert set y) x ≡ true → (y ≡ x) ⊎ (contains set x ≡ true)
one_more set y x has = elim (cases_order y x) [
  | inl same ↦ inl same
  | inr (inl below) ↦ inr (sym (contains-other set y x (λ same. omega arith)) ∙ has)
  | inr (inr above) ↦ inr (sym (contains-other set y x (λ same. omega arith)) ∙ has)
]

still_has : (set : FinSet nat_cmp) (y x : ℕ) → contains set x ≡ true → contains (insert set y) x ≡ true
still_has set y x has = elim (cases_order x y) [
  | inl same ↦ ap (contains (insert set y)) same ∙ contains-new set y
  | inr (inl below) ↦ contains-other set y x (λ same. omega arith) ∙ has
  | inr (inr above) ↦ contains-other set y x (λ same. omega arith) ∙ has
]

in_with_all : (set : FinSet nat_cmp) (xs : List ℕ) (x : ℕ) → contains (with_all set xs) x ≡ true → (contains set x ≡ true) ⊎ Contains xs x
in_with_all set [] x has = inl has
in_with_all set (y ∷ ys) x has = elim (in_with_all (insert set y) ys x has) [
  | inl before ↦ elim (one_more set y x before) [
    | inl same ↦ inr (subst (λ (a : ℕ). Contains (y ∷ ys) a) same (Contains-head y ys))
    | inr was ↦ inl was
  ]
  | inr behind ↦ inr (Contains-rest y ys x behind)
]

with_all_in : (set : FinSet nat_cmp) (xs : List ℕ) (x : ℕ) → (contains set x ≡ true) ⊎ Contains xs x → contains (with_all set xs) x ≡ true
with_all_in set [] x (inl has) = has
with_all_in set [] x (inr has) = absurd (Contains-none x has)
with_all_in set (y ∷ ys) x (inl has) = with_all_in (insert set y) ys x (inl (still_has set y x has))
with_all_in set (y ∷ ys) x (inr has) = elim (Contains-cases y ys x has) [
  | inl here ↦ with_all_in (insert set y) ys x (inl (subst (λ (a : ℕ). contains (insert set y) a ≡ true) here (contains-new set y)))
  | inr behind ↦ with_all_in (insert set y) ys x (inr behind)
]

-- an address is in the set of a list if it is one of the list
pub in_set : (xs : List ℕ) (x : ℕ) → Contains xs x → contains (with_all empty xs) x ≡ true
in_set xs x has = with_all_in empty xs x (inr has)

-- and only then
pub from_set : (xs : List ℕ) (x : ℕ) → contains (with_all empty xs) x ≡ true → Contains xs x
from_set xs x has = elim (in_with_all empty xs x has) [
  | inl none ↦ absurd (cc (none, contains-empty nat_cmp x))
  | inr there ↦ there
]
