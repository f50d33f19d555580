-- Laws of moves: objects of an area get the words from an address on, one after the other, and each of them has one new address.
use Rattle.std.proofs.Common.{◌≡◌, ◌≢◌, ℕ, ◌≤◌, zero, suc, ◌+◌, ◌⊎◌, inl, inr, Bool, true, false, List, [], ◌∷◌, Option, Some, refl, sym, ap, ◌∙◌, subst, arith, Less}
use Rattle.std.specs.Prelude.{Contains, sum_by, ◌==◌, if◌then◌else◌}
use Rattle.std.proofs.lemmas.Bool.{eq-eqb, eqb-true, ne_eqb, cases_eq}
use Rattle.std.proofs.lemmas.Option.{same_Some}
use Rattle.object_layout.proofs.WalkLaws.{Contains-head, Contains-rest, Contains-none, Contains-cases}
use Rattle.std.proofs.lemmas.List.Sums.{sum_by-cons}
use Rattle.std.proofs.lemmas.Cmp.{tied_itself}
use Rattle.std.proofs.lemmas.Map.Keys.{sorted_from_strictly_increasing}
use Rattle.std.specs.Cmp.{nat_cmp_total}
use Rattle.std.specs.List.{AllByRecursion}
use Rattle.std.specs.List.Sorted.{IsStrictlySortedBy, IsStrictlyIncreasing}
use Rattle.std.specs.Ordering.{nat_cmp}
use Rattle.stability_tracker.specs.Promotion.{need}
use Rattle.volatile_area.specs.Area.{AreaState}
use Rattle.graph_words.specs.Promotion.{Move, words_taken, moves_to, moved}

-- the words that these objects of an area take
abbrev pub words_needed : AreaState → List ℕ → ℕ
words_needed area [] = 0
words_needed area (at ∷ rest) = words_taken area at + words_needed area rest

-- no object is among these twice
abbrev pub AreDistinct : List ℕ → Type 0
AreDistinct [] = Unit {0}
AreDistinct (at ∷ rest) = (Contains rest at → ⊥) × AreDistinct rest

picked : (b : Bool) (x y : ℕ) (rest : Option ℕ) → (if b then Some x else rest) ≡ Some y → ((b ≡ true) × (x ≡ y)) ⊎ ((b ≡ false) × (rest ≡ Some y))
picked true x y rest is = inl (refl, same_Some x y is)
picked false x y rest is = inr (refl, is)

-- an object that moves is that of the first move, or one of the others
pub moved-cases : (m : Move) (ms : List Move) (at address : ℕ) → moved (m ∷ ms) at ≡ Some address → ((m.0 ≡ at) × (m.1 ≡ address)) ⊎ ((m.0 ≢ at) × (moved ms at ≡ Some address))
moved-cases m ms at address is = elim (picked (m.0 == at) m.1 address (moved ms at) is) [
  | inl here ↦ inl (eqb-true m.0 at here.0, here.1)
  | inr (other, behind) ↦ inr (differ m.0 at other, behind)
]
  where
    differ : (x y : ℕ) → (x == y) ≡ false → x ≢ y
    differ x y other same = cc (other, eq-eqb x y same)

-- the first moves to its address
pub moved-head : (m : Move) (ms : List Move) → moved (m ∷ ms) m.0 ≡ Some m.1
moved-head m ms = ap (λ b. if b then Some m.1 else moved ms m.0) (eq-eqb m.0 m.0 refl)

-- and another to where the moves after the first put it
pub moved-rest : (m : Move) (ms : List Move) (at : ℕ) → m.0 ≢ at → moved (m ∷ ms) at ≡ moved ms at
moved-rest m ms at other = ap (λ b. if b then Some m.1 else moved ms at) (ne_eqb m.0 at other)

-- an object that moves is one of those that were given
pub moved_given : (area : AreaState) (starts : List ℕ) (address at new : ℕ) → moved (moves_to area starts address) at ≡ Some new → Contains starts at
moved_given area [] address at new is = cc
moved_given area (a ∷ rest) address at new is = elim (moved-cases (a, address) (moves_to area rest (address + words_taken area a)) at new is) [
  | inl here ↦ subst (λ (x : ℕ). Contains (a ∷ rest) x) here.0 (Contains-head a rest)
  | inr behind ↦ Contains-rest a rest at (moved_given area rest (address + words_taken area a) at new behind.1)
]

-- Where an object of the area goes: it moves there, and its words are among those that the objects get.
pub record IsMovedTo (area : AreaState) (starts : List ℕ) (address at new : ℕ) : Type 0 where
  pub is : moved (moves_to area starts address) at ≡ Some new
  pub above : address ≤ new
  pub below : new + words_taken area at ≤ address + words_needed area starts

moved_later : (area : AreaState) (a : ℕ) (rest : List ℕ) (address at new : ℕ) → a ≢ at → IsMovedTo area rest (address + words_taken area a) at new → IsMovedTo area (a ∷ rest) address at new
moved_later area a rest address at new other later =
    let above = later.above in
    let below = later.below in
    record {
      is = moved-rest (a, address) (moves_to area rest (address + words_taken area a)) at other ∙ later.is;
      above = omega arith;
      below = omega arith;
    }

moved_first : (area : AreaState) (a : ℕ) (rest : List ℕ) (address : ℕ) → IsMovedTo area (a ∷ rest) address a address
moved_first area a rest address = record {
  is = moved-head (a, address) (moves_to area rest (address + words_taken area a));
  above = omega arith;
  below = omega arith;
}

-- each of the objects that were given moves
pub moved_to : (area : AreaState) (starts : List ℕ) (address at : ℕ) → Contains starts at → (new : ℕ) × IsMovedTo area starts address at new
moved_to area [] address at has = absurd (Contains-none at has)
moved_to area (a ∷ rest) address at has = elim (cases_eq a at) [
  | inl here ↦ (address, subst (λ (x : ℕ). IsMovedTo area (a ∷ rest) address x address) here (moved_first area a rest address))
  | inr other ↦ elim (Contains-cases a rest at has) [
    | inl here ↦ absurd (other here)
    | inr behind ↦
        let later = moved_to area rest (address + words_taken area a) at behind in
        (later.0, moved_later area a rest address at later.0 other later.1)
  ]
]

-- each move is found by its object, if no object is among them twice
pub moved_of : (area : AreaState) (starts : List ℕ) (address : ℕ) (m : Move) → AreDistinct starts → Contains (moves_to area starts address) m
    → Contains starts m.0 × (moved (moves_to area starts address) m.0 ≡ Some m.1)
moved_of area [] address m distinct (k, within, is) = absurd (omega arith)
moved_of area (a ∷ rest) address m distinct (zero, within, is) =
    (subst (λ (x : Move). Contains (a ∷ rest) x.0) is (Contains-head a rest), subst (λ (x : Move). moved (moves_to area (a ∷ rest) address) x.0 ≡ Some x.1) is (moved_first area a rest address).is)
moved_of area (a ∷ rest) address m distinct (suc k, within, is) =
    let later = moved_of area rest (address + words_taken area a) m distinct.1 (k, omega arith, is) in (
      Contains-rest a rest m.0 later.0,
      moved-rest (a, address) (moves_to area rest (address + words_taken area a)) m.0 (λ same. distinct.0 (subst (λ (x : ℕ). Contains rest x) (sym same) later.0)) ∙ later.1,
    )

-- What objects need.

-- the words that objects need are the sum of what each takes
pub needed-sum : (area : AreaState) (starts : List ℕ) → need area starts ≡ words_needed area starts
needed-sum area [] = refl
needed-sum area (at ∷ rest) = sum_by-cons (words_taken area) at rest ∙ ap (λ n. words_taken area at + n) (needed-sum area rest)

not_among : (x : ℕ) (xs : List ℕ) → AllByRecursion (λ y. nat_cmp x y ≡ Less) xs → Contains xs x → ⊥
not_among x [] above has = Contains-none x has
not_among x (y ∷ xs) above has = elim (Contains-cases y xs x has) [
  | inl here ↦ cc (sym (ap (nat_cmp x) here) ∙ above.0, tied_itself nat_cmp_total x)
  | inr behind ↦ not_among x xs above.1 behind
]

distinct_sorted : (xs : List ℕ) → IsStrictlySortedBy nat_cmp xs → AreDistinct xs
unfolding IsStrictlySortedBy
distinct_sorted [] up = tt
distinct_sorted (x ∷ xs) up = (not_among x xs up.0, distinct_sorted xs up.1)

-- none of ascending numbers is there twice
pub distinct_increasing : (xs : List ℕ) → IsStrictlyIncreasing xs → AreDistinct xs
distinct_increasing xs up = distinct_sorted xs (sorted_from_strictly_increasing xs up)
