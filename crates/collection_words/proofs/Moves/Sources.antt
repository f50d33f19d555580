-- Of objects that are put end to end, the names, and where each of them stood.
use Rattle.std.proofs.Common.{◌≡◌, ℕ, ◌+◌, inl, inr, Bool, true, false, List, [], ◌∷◌, Option, Some, is_some, refl, ap, ◌∙◌, subst}
use Rattle.std.specs.Prelude.{Contains, if◌then◌else◌}
use Rattle.graph_model.specs.Graph.{is_same_id}
use Rattle.graph_model.specs.declared.id.Id.{Id}
use Rattle.object_layout.proofs.WalkLaws.{Contains-cases, Contains-head, Contains-none, Contains-rest}
use Rattle.graph_words.specs.Places.{Places, addresses, address_of}
use Rattle.collection_words.specs.Completed.{taken_at, moves_from, places_from}

-- An object that is put elsewhere, by where it stood and where it stands then.
pub record IsPut (words : List ℕ) (ps : Places) (to : ℕ) (id : Id) (at there : ℕ) : Type 0 where
  pub stood : address_of ps id ≡ Some at
  pub stands : address_of (places_from words ps to) id ≡ Some there
  pub move : Contains (moves_from words (addresses ps) to) (at, there)

put_here : (words : List ℕ) (p : Id × ℕ) (ps : Places) (to : ℕ) (id : Id) (there : ℕ) (b : Bool) → is_same_id p.0 id ≡ b
    → (address_of (places_from words ps (to + taken_at words p.1)) id ≡ Some there → (at : ℕ) × IsPut words ps (to + taken_at words p.1) id at there)
    → (if b then Some to else address_of (places_from words ps (to + taken_at words p.1)) id) ≡ Some there → (at : ℕ) × IsPut words (p ∷ ps) to id at there
put_here words p ps to id there true same later is =
    let end : to ≡ there = cc is in (
      p.1,
      record {
        stood = ap (λ (b : Bool). if b then Some p.1 else address_of ps id) same;
        stands = ap (λ (b : Bool). if b then Some to else address_of (places_from words ps (to + taken_at words p.1)) id) same ∙ is;
        move = subst (λ (x : ℕ). Contains (moves_from words (addresses (p ∷ ps)) to) (p.1, x)) end (Contains-head (p.1, to) (moves_from words (addresses ps) (to + taken_at words p.1)));
      },
    )
put_here words p ps to id there false same later is =
    let found = later is in
    let put = found.1 in (
      found.0,
      record {
        stood = ap (λ (b : Bool). if b then Some p.1 else address_of ps id) same ∙ put.stood;
        stands = ap (λ (b : Bool). if b then Some to else address_of (places_from words ps (to + taken_at words p.1)) id) same ∙ put.stands;
        move = Contains-rest (p.1, to) (moves_from words (addresses ps) (to + taken_at words p.1)) (found.0, there) put.move;
      },
    )

-- each object that stands there stood somewhere
pub put_source : (words : List ℕ) (ps : Places) (to : ℕ) (id : Id) (there : ℕ) → address_of (places_from words ps to) id ≡ Some there → (at : ℕ) × IsPut words ps to id at there
put_source words [] to id there is = cc
put_source words (p ∷ ps) to id there is =
    put_here words p ps to id there (is_same_id p.0 id) refl (put_source words ps (to + taken_at words p.1) id there) is

both_there : (b : Bool) (x y : ℕ) (o q : Option ℕ) → is_some o ≡ is_some q → is_some (if b then Some x else o) ≡ is_some (if b then Some y else q)
both_there true x y o q same = refl
both_there false x y o q same = same

-- the same objects have places
pub put_same : (words : List ℕ) (ps : Places) (to : ℕ) (id : Id) → is_some (address_of (places_from words ps to) id) ≡ is_some (address_of ps id)
put_same words [] to id = refl
put_same words (p ∷ ps) to id = both_there (is_same_id p.0 id) to p.1 _ _ (put_same words ps (to + taken_at words p.1) id)

-- what is put stood among what was to be put
pub move_source : (words xs : List ℕ) (to at there : ℕ) → Contains (moves_from words xs to) (at, there) → Contains xs at
move_source words [] to at there has = absurd (Contains-none (at, there) has)
move_source words (x ∷ xs) to at there has = elim (Contains-cases (x, to) (moves_from words xs (to + taken_at words x)) (at, there) has) [
  | inl here ↦ subst (λ (y : ℕ). Contains (x ∷ xs) y) (ap (λ (m : ℕ × ℕ). m.0) here) (Contains-head x xs)
  | inr behind ↦ Contains-rest x xs at (move_source words xs (to + taken_at words x) at there behind)
]
