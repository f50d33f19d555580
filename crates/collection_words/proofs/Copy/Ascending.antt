-- Addresses that ascend: each stands once among them, and one of them can be taken away.
use Rattle.std.proofs.Common.{◌≡◌, ◌≢◌, ℕ, suc, ◌+◌, ◌<◌, ◌≤◌, ◌==◌, ◌&&◌, inl, inr, Bool, true, false, not, List, [], ◌∷◌, Some, refl, sym, ap, ◌∙◌, arith}
use Rattle.std.specs.Prelude.{Contains, filter, if◌then◌else◌}
use Rattle.std.specs.List.{AllByRecursion}
use Rattle.std.proofs.lemmas.Bool.{eq-eqb, ne_eqb}
use Rattle.std.proofs.lemmas.Option.{same_Some}
use Rattle.graph_model.proofs.Whole.Graph.{same_or_other}
use Rattle.graph_model.specs.declared.id.Id.{Id}
use Rattle.object_layout.proofs.WalkLaws.{Contains-cases, Contains-none}
use Rattle.relocation.specs.Relocation.{destination}
use Rattle.graph_words.specs.Places.{Places, address_of, addresses}
use Rattle.graph_words.proofs.Places.Addresses.{address_of-Contains, address_of-head, address_of-rest}
use Rattle.collection_words.specs.Placed.{Ascend}
use Rattle.collection_words.specs.Completed.{moves_from, places_from, taken_at, taken_by, without}
use Rattle.collection_words.specs.LaidOut.{AreOldEndToEnd}

-- each of them is not below
pub ascend_low : (low : ℕ) (xs : List ℕ) (at : ℕ) → Ascend low xs → Contains xs at → low ≤ at
ascend_low low [] at up has = absurd (Contains-none at has)
ascend_low low (x ∷ xs) at up has =
    let first = up.0 in
    elim (Contains-cases x xs at has) [ inl here ↦ omega arith | inr later ↦ let above = ascend_low (suc x) xs at up.1 later in omega arith ]

pub ascend_from : (low less : ℕ) (xs : List ℕ) → less ≤ low → Ascend low xs → Ascend less xs
ascend_from low less [] below up = tt
ascend_from low less (x ∷ xs) below up = let first = up.0 in (omega arith, up.1)

-- objects of the from-space do
pub ascend_chain : (words : List ℕ) (from : ℕ) (starts : List ℕ) (end : ℕ) → AreOldEndToEnd words from starts end → Ascend from starts
ascend_chain words from [] end ends = tt
ascend_chain words from (at ∷ rest) end (n, same, long, more) = (omega arith, ascend_from (at + 2 + n) (suc at) rest (omega arith) (ascend_chain words (at + 2 + n) rest end more))

kept_ascend : (b : Bool) (low x : ℕ) (xs : List ℕ) → low ≤ x → Ascend (suc x) xs → Ascend low (if b then x ∷ xs else xs)
kept_ascend true low x xs first up = (first, up)
kept_ascend false low x xs first up = ascend_from (suc x) low xs (omega arith) up

-- so do those that are kept of them
pub ascend_filter : (p : ℕ → Bool) (low : ℕ) (xs : List ℕ) → Ascend low xs → Ascend low (filter p xs)
ascend_filter p low [] up = tt
ascend_filter p low (x ∷ xs) up = kept_ascend (p x) low x (filter p xs) up.0 (ascend_filter p (suc x) xs up.1)

-- One taken away.

-- the addresses without one
abbrev pub other_than : ℕ → ℕ → Bool
other_than from at = not (at == from)

pub other_true : (from at : ℕ) → at ≢ from → other_than from at ≡ true
other_true from at other = ap not (ne_eqb at from other)

pub other_false : (from at : ℕ) → at ≡ from → other_than from at ≡ false
other_false from at same = ap not (eq-eqb at from same)

-- where it is not among them they stay
pub without_none : (from low : ℕ) (xs : List ℕ) → from < low → Ascend low xs → filter (other_than from) xs ≡ xs
without_none from low [] below up = refl
without_none from low (x ∷ xs) below up =
    let first = up.0 in
    ap (λ b. if b then x ∷ filter (other_than from) xs else filter (other_than from) xs) (other_true from x (λ same. omega arith))
    ∙ ap (λ (l : List ℕ). x ∷ l) (without_none from (suc x) xs (omega arith) up.1)

-- the objects take as many words as that one and the others
pub taken_without : (words : List ℕ) (from low : ℕ) (xs : List ℕ) → Ascend low xs → Contains xs from → taken_by words xs ≡ taken_at words from + taken_by words (filter (other_than from) xs)
taken_without words from low [] up has = absurd (Contains-none from has)
taken_without words from low (x ∷ xs) up has =
    let Kept : Bool → List ℕ = λ b. if b then x ∷ filter (other_than from) xs else filter (other_than from) xs in
    elim (Contains-cases x xs from has) [
      | inl here ↦
          let gone : filter (other_than from) (x ∷ xs) ≡ xs = ap Kept (other_false from x here) ∙ without_none from (suc x) xs (omega arith) up.1 in
          let size : taken_at words x ≡ taken_at words from = ap (taken_at words) here in
          omega (arith, ap (taken_by words) gone)
      | inr later ↦
          let above = ascend_low (suc x) xs from up.1 later in
          let kept : filter (other_than from) (x ∷ xs) ≡ x ∷ filter (other_than from) xs = ap Kept (other_true from x (λ same. omega arith)) in
          let rest = taken_without words from (suc x) xs up.1 later in
          omega (arith, ap (taken_by words) kept)
    ]

twice : (a b : Bool) (x : ℕ) (xs : List ℕ) (p : ℕ → Bool) → p x ≡ a → filter p (if b then x ∷ xs else xs) ≡ (if a && b then x ∷ filter p xs else filter p xs)
twice true true x xs p is = ap (λ c. if c then x ∷ filter p xs else filter p xs) is
twice true false x xs p is = refl
twice false true x xs p is = ap (λ c. if c then x ∷ filter p xs else filter p xs) is
twice false false x xs p is = refl

-- what passes two tests, one after the other
pub filter_twice : (p q r : ℕ → Bool) (xs : List ℕ) → ((x : ℕ) → (p x && q x) ≡ r x) → filter p (filter q xs) ≡ filter r xs
filter_twice p q r [] same = refl
filter_twice p q r (x ∷ xs) same =
    twice (p x) (q x) x (filter q xs) p refl
    ∙ ap (λ (l : List ℕ). if p x && q x then x ∷ l else l) (filter_twice p q r xs same)
    ∙ ap (λ b. if b then x ∷ filter r xs else filter r xs) (same x)

addresses_kept : (b : Bool) (p : Id × ℕ) (ps : Places) → addresses (if b then p ∷ ps else ps) ≡ (if b then p.1 ∷ addresses ps else addresses ps)
addresses_kept true p ps = refl
addresses_kept false p ps = refl

-- the addresses of places without one
pub addresses_without : (ps : Places) (from : ℕ) → addresses (without ps from) ≡ filter (other_than from) (addresses ps)
addresses_without [] from = refl
addresses_without (p ∷ ps) from =
    addresses_kept (other_than from p.1) p (without ps from)
    ∙ ap (λ (l : List ℕ). if other_than from p.1 then p.1 ∷ l else l) (addresses_without ps from)

-- The place to come.

-- an object that remains is put where its address goes
pub put_destination : (words : List ℕ) (ps : Places) (low to : ℕ) (id : Id) (at : ℕ) → Ascend low (addresses ps) → address_of ps id ≡ Some at
    → address_of (places_from words ps to) id ≡ destination (moves_from words (addresses ps) to) at
put_destination words [] low to id at up is = cc
put_destination words (p ∷ ps) low to id at up is = elim (same_or_other p.0 id) [
  | inl same ↦
      let here : p.1 ≡ at = same_Some p.1 at (sym (ap (address_of (p ∷ ps)) (sym same) ∙ address_of-head p ps) ∙ is) in
      let rest = destination (moves_from words (addresses ps) (to + taken_at words p.1)) at in
      ap (address_of (places_from words (p ∷ ps) to)) (sym same)
      ∙ address_of-head (p.0, to) (places_from words ps (to + taken_at words p.1))
      ∙ sym (ap (λ b. if b then Some to else rest) (eq-eqb p.1 at here))
  | inr other ↦
      let behind : address_of ps id ≡ Some at = sym (address_of-rest p ps id other) ∙ is in
      let above = ascend_low (suc p.1) (addresses ps) at up.1 (address_of-Contains ps id at behind) in
      let rest = destination (moves_from words (addresses ps) (to + taken_at words p.1)) at in
      address_of-rest (p.0, to) (places_from words ps (to + taken_at words p.1)) id other
      ∙ put_destination words ps (suc p.1) (to + taken_at words p.1) id at up.1 behind
      ∙ sym (ap (λ b. if b then Some to else rest) (ne_eqb p.1 at (λ same. omega arith)))
]

-- only one of them stands at an address
pub only_at : (ps : Places) (low : ℕ) (id : Id) (from : ℕ) → Ascend low (addresses ps) → address_of ps id ≡ Some from → AllByRecursion (λ p. p.1 ≡ from → p.0 ≡ id) ps
only_at [] low id from up is = tt
only_at (p ∷ ps) low id from up is = elim (same_or_other p.0 id) [
  | inl same ↦
      let here : p.1 ≡ from = same_Some p.1 from (sym (ap (address_of (p ∷ ps)) (sym same) ∙ address_of-head p ps) ∙ is) in
      ((λ _. same), none_at ps (suc p.1) up.1 (omega arith))
  | inr other ↦
      let behind : address_of ps id ≡ Some from = sym (address_of-rest p ps id other) ∙ is in
      let above = ascend_low (suc p.1) (addresses ps) from up.1 (address_of-Contains ps id from behind) in
      ((λ here. absurd (omega arith)), only_at ps (suc p.1) id from up.1 behind)
]
  where
    none_at : (qs : Places) (least : ℕ) → Ascend least (addresses qs) → from < least → AllByRecursion (λ p. p.1 ≡ from → p.0 ≡ id) qs
    none_at [] least up below = tt
    none_at (q ∷ qs) least up below = let first = up.0 in ((λ here. absurd (omega arith)), none_at qs (suc q.1) up.1 (omega arith))
