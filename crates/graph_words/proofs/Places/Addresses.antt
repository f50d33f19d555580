-- Laws of places: which object stands where, and that where objects stand tells them apart.
use Rattle.std.proofs.Common.{Bool, Contains, List, None, Option, Some, [], ap, arith, eq-eqb, false, if◌then◌else◌, inl, inr, is_some, ne_eqb, refl, subst, suc, sym, true, zero, ℕ, ◌+◌, ◌-◌, ◌<◌, ◌∙◌, ◌∷◌, ◌≡◌, ◌≢◌, ◌≤◌, ◌⊎◌}
use Rattle.std.proofs.lemmas.Bool.{cases_lt, cases_order}
use Rattle.std.proofs.lemmas.Option.{same_Some}
use Rattle.std.specs.List.{AllByRecursion}
use Rattle.graph_model.specs.Graph.{Graph, is_same_id}
use Rattle.graph_model.proofs.Whole.Graph.{itself, same_id}
use Rattle.graph_model.specs.declared.id.Id.{Id}
use Rattle.object_layout.proofs.ObjectLaws.{end_to_end_begins}
use Rattle.object_layout.specs.Walk.{AreEndToEnd}
use Rattle.object_layout.proofs.WalkLaws.{Contains-cases, Contains-head, Contains-none, Contains-rest}
use Rattle.graph_words.specs.Places.{AreOld, IsOld, IsOwn, Places, address_of, addresses, area_used, index_of, made_by, size_of}
use Rattle.graph_words.proofs.Places.Names.{NamesPlaces, name_at}

-- The addresses of objects.

picked : (b : Bool) (x at : ℕ) (rest : Option ℕ) → (if b then Some x else rest) ≡ Some at → ((b ≡ true) × (x ≡ at)) ⊎ ((b ≡ false) × (rest ≡ Some at))
picked true x at rest is = inl (refl, same_Some x at is)
picked false x at rest is = inr (refl, is)

-- an object stands at the first place, if that is its own, or at a later one
pub address_of-cases : (p : Id × ℕ) (ps : Places) (id : Id) (at : ℕ) → address_of (p ∷ ps) id ≡ Some at → ((p.0 ≡ id) × (p.1 ≡ at)) ⊎ (address_of ps id ≡ Some at)
address_of-cases p ps id at is = elim (picked (is_same_id p.0 id) p.1 at (address_of ps id) is) [
  | inl here ↦ inl (same_id p.0 id here.0, here.1)
  | inr behind ↦ inr behind.1
]

-- the object of the first place stands there
pub address_of-head : (p : Id × ℕ) (ps : Places) → address_of (p ∷ ps) p.0 ≡ Some p.1
address_of-head p ps = ap (λ b. if b then Some p.1 else address_of ps p.0) (itself p.0)

-- an object of another name stands where it does after the first place
pub address_of-rest : (p : Id × ℕ) (ps : Places) (id : Id) → p.0 ≢ id → address_of (p ∷ ps) id ≡ address_of ps id
address_of-rest p ps id other = unpicked (is_same_id p.0 id) refl
  where
    unpicked : (b : Bool) → is_same_id p.0 id ≡ b → (if b then Some p.1 else address_of ps id) ≡ address_of ps id
    unpicked true is = absurd (other (same_id p.0 id is))
    unpicked false is = refl

-- where an object stands is one of the addresses
pub address_of-Contains : (places : Places) (id : Id) (at : ℕ) → address_of places id ≡ Some at → Contains (addresses places) at
address_of-Contains [] id at is = cc
address_of-Contains (p ∷ ps) id at is = elim (address_of-cases p ps id at is) [
  | inl here ↦ subst (λ (x : ℕ). Contains (addresses (p ∷ ps)) x) here.1 (Contains-head p.1 (addresses ps))
  | inr behind ↦ Contains-rest p.1 (addresses ps) at (address_of-Contains ps id at behind)
]

-- what holds of each place holds of the one at an address
pub placed : (P : Id × ℕ → Type 0) (places : Places) (at : ℕ) → AllByRecursion P places → Contains (addresses places) at → (id : Id) × P (id, at)
placed P [] at all has = absurd (Contains-none at has)
placed P (p ∷ ps) at all has = elim (Contains-cases p.1 (addresses ps) at has) [
  | inl here ↦ (p.0, subst (λ x. P (p.0, x)) here all.0)
  | inr behind ↦ placed P ps at all.1 behind
]

-- what holds of each place holds of that of an object
pub placed_as : (P : Id × ℕ → Type 0) (places : Places) (id : Id) (at : ℕ) → AllByRecursion P places → address_of places id ≡ Some at → P (id, at)
placed_as P [] id at all is = cc
placed_as P (p ∷ ps) id at all is = elim (address_of-cases p ps id at is) [
  | inl here ↦ subst (λ x. P (id, x)) here.1 (subst (λ (x : Id). P (x, p.1)) here.0 all.0)
  | inr later ↦ placed_as P ps id at all.1 later
]

-- the place of an object that has its own
pub named_at : (places : Places) (at : ℕ) → AllByRecursion (λ p. address_of places p.0 ≡ Some p.1) places → Contains (addresses places) at → (id : Id) × (address_of places id ≡ Some at)
named_at places at named has = placed (λ p. address_of places p.0 ≡ Some p.1) places at named has

-- two objects that stand at one address are one
pub address_of-one : (words : List ℕ) (from : ℕ) (places : Places) (end at : ℕ) (a b : Id) → AreEndToEnd words from (addresses places) end
    → address_of places a ≡ Some at → address_of places b ≡ Some at → a ≡ b
address_of-one words from [] end at a b ends one other = cc
address_of-one words from (p ∷ ps) end at a b (n, same, object, more) one other = elim (address_of-cases p ps a at one) [
  | inl here ↦ elim (address_of-cases p ps b at other) [
    | inl there ↦ sym here.0 ∙ there.0
    | inr later ↦ let far = end_to_end_begins words (p.1 + 2 + n) (addresses ps) end at more (address_of-Contains ps b at later) in absurd (omega arith)
  ]
  | inr later ↦ elim (address_of-cases p ps b at other) [
    | inl there ↦ let far = end_to_end_begins words (p.1 + 2 + n) (addresses ps) end at more (address_of-Contains ps a at later) in absurd (omega arith)
    | inr behind ↦ address_of-one words (p.1 + 2 + n) ps end at a b more later behind
  ]
]

first_name : (p : Id × ℕ) (ps : Places) (at : ℕ) → p.1 ≡ at → name_at (p ∷ ps) at ≡ p.0
first_name p ps at same = ap (λ b. if b then p.0 else name_at ps at) (eq-eqb p.1 at same)

later_name : (p : Id × ℕ) (ps : Places) (at : ℕ) → p.1 < at → name_at (p ∷ ps) at ≡ name_at ps at
later_name p ps at below = ap (λ b. if b then p.0 else name_at ps at) (ne_eqb p.1 at (λ same. omega arith))

-- the names that places give are those of the objects that stand there
pub name_at-NamesPlaces : (words : List ℕ) (from : ℕ) (places : Places) (end : ℕ) → AreEndToEnd words from (addresses places) end → NamesPlaces (name_at places) places
name_at-NamesPlaces words from [] end ends id at is = cc
name_at-NamesPlaces words from (p ∷ ps) end (n, same, object, more) id at is = elim (address_of-cases p ps id at is) [
  | inl here ↦ first_name p ps at here.1 ∙ here.0
  | inr later ↦
      let far = end_to_end_begins words (p.1 + 2 + n) (addresses ps) end at more (address_of-Contains ps id at later) in
      later_name p ps at (omega arith) ∙ name_at-NamesPlaces words (p.1 + 2 + n) ps end more id at later
]

-- an address is there, or there is none
pub none_or_some : (o : Option ℕ) → (o ≡ None) ⊎ ((at : ℕ) × (o ≡ Some at))
none_or_some None = inl refl
none_or_some (Some at) = inr (at, refl)

-- an address that is there
pub some_address : (o : Option ℕ) → is_some o ≡ true → (at : ℕ) × (o ≡ Some at)
some_address None is = cc
some_address (Some at) is = (at, refl)

-- no object of a transaction from the next one on stands in the space
pub old_apart : (next : ℕ) (places : Places) (t k : ℕ) → AreOld next places → next ≤ t → 1 ≤ t → address_of places (made_by t k) ≡ None
old_apart next [] t k old above first = refl
old_apart next (p ∷ ps) t k old above first = address_of-rest p ps (made_by t k) (older p.0 old.0) ∙ old_apart next ps t k old.1 above first
  where
    older : (id : Id) → IsOld next id → id ≢ made_by t k
    older id (inl is) same = let maker = ap (λ (x : Id). x.t) (sym is ∙ same) in omega arith
    older id (inr is) same = let maker = ap (λ (x : Id). x.t) same in omega arith

-- The area of a transaction.

-- the index of the next object is what those before take
pub index_of-next : (g : Graph) (t n : ℕ) → index_of g (made_by t (suc n)) ≡ area_used g t n
index_of-next g t n = let same : suc n - 1 ≡ n = omega arith in ap (area_used g t) same

-- more objects take no fewer words
pub area_used_grows : (g : Graph) (t m n : ℕ) → m ≤ n → area_used g t m ≤ area_used g t n
area_used_grows g t m zero few = let same : m ≡ zero = omega arith in omega (arith, ap (area_used g t) same)
area_used_grows g t m (suc n) few = elim (cases_lt n m) [
  | inl last ↦ let same : m ≡ suc n = omega arith in omega (arith, ap (area_used g t) same)
  | inr within ↦ let less = area_used_grows g t m n within in omega arith
]

-- an object ends within the words of those that were made
pub made_within : (g : Graph) (t k n : ℕ) → 1 ≤ k → k ≤ n → index_of g (made_by t k) + size_of g (made_by t k) ≤ area_used g t n
made_within g t zero n first few = absurd (omega arith)
made_within g t (suc k) n first few = omega (arith, index_of-next g t k, area_used_grows g t (suc k) n few)

-- an object ends where the next starts, or before
pub made_before : (g : Graph) (t j k : ℕ) → 1 ≤ j → j < k → index_of g (made_by t j) + size_of g (made_by t j) ≤ index_of g (made_by t k)
made_before g t j k first less = made_within g t j (k - 1) first (omega arith)

-- an object that the transaction made is the one of its number
pub own_made : (t made : ℕ) (id : Id) → IsOwn t made id → id ≡ made_by t id.k
own_made t made id own = ap (λ x. record { t = x; k = id.k }) own.maker

-- it ends within the area's words
pub own_within : (g : Graph) (t made : ℕ) (id : Id) → IsOwn t made id → index_of g id + size_of g id ≤ area_used g t made
own_within g t made id own =
    subst (λ (x : Id). index_of g x + size_of g x ≤ area_used g t made) (sym (own_made t made id own)) (made_within g t id.k made own.first own.last)

-- two objects of one index are one
pub index_of-one : (g : Graph) (t made : ℕ) (a b : Id) → IsOwn t made a → IsOwn t made b → index_of g a ≡ index_of g b → a ≡ b
index_of-one g t made a b one other same =
    let here = own_made t made a one in
    let there = own_made t made b other in
    let index : index_of g (made_by t a.k) ≡ index_of g (made_by t b.k) = ap (index_of g) (sym here) ∙ same ∙ ap (index_of g) there in
    let first = one.first in
    let first' = other.first in
    elim (cases_order a.k b.k) [
      | inl equal ↦ here ∙ ap (made_by t) equal ∙ sym there
      | inr (inl less) ↦ let far = made_before g t a.k b.k first less in absurd (omega arith)
      | inr (inr more) ↦ let far = made_before g t b.k a.k first' more in absurd (omega arith)
    ]
