-- Where objects stand after a seal: those that stood in the space where they did, and those that are promoted at their new addresses.
use Rattle.std.proofs.Common.{◌≡◌, ℕ, ◌+◌, inl, inr, Bool, true, false, List, [], ◌∷◌, ◌++◌, map, Option, None, Some, refl, sym, ap, ◌∙◌, subst}
use Rattle.std.specs.Prelude.{Contains, if◌then◌else◌}
use Rattle.graph_model.specs.declared.id.Id.{Id}
use Rattle.graph_model.specs.Graph.{Graph, is_same_id}
use Rattle.graph_model.proofs.Whole.Graph.{same_or_other}
use Rattle.object_layout.specs.Layout.{id_at}
use Rattle.object_layout.proofs.WalkLaws.{Contains-head, Contains-rest}
use Rattle.volatile_area.specs.Area.{AreaState}
use Rattle.graph_words.specs.Places.{Places, address_of, addresses, index_of, IsOwn}
use Rattle.graph_words.proofs.Places.Addresses.{address_of-cases, address_of-head, address_of-rest, index_of-one}
use Rattle.graph_words.specs.Promotion.{Move, words_taken, moves_to, moved, promoted_places}
use Rattle.graph_words.proofs.Places.Moves.{moved-head, moved-rest}

-- Places after places.

first_found : (b : Bool) (x at : ℕ) (o o' : Option ℕ) → (o ≡ Some at → o' ≡ Some at) → (if b then Some x else o) ≡ Some at → (if b then Some x else o') ≡ Some at
first_found true x at o o' on is = is
first_found false x at o o' on is = on is

-- an object that has a place keeps it
pub address_of-append_left : (ps qs : Places) (id : Id) (at : ℕ) → address_of ps id ≡ Some at → address_of (ps ++ qs) id ≡ Some at
address_of-append_left [] qs id at is = absurd (cc is)
address_of-append_left (p ∷ ps) qs id at is =
    first_found (is_same_id p.0 id) p.1 at (address_of ps id) (address_of (ps ++ qs) id) (λ behind. address_of-append_left ps qs id at behind) is

none_found : (b : Bool) (x : ℕ) (o o' o'' : Option ℕ) → (o ≡ None → o' ≡ o'') → (if b then Some x else o) ≡ None → (if b then Some x else o') ≡ o''
none_found true x o o' o'' on is = absurd (cc is)
none_found false x o o' o'' on is = on is

-- another has the one that it has among the later ones
pub address_of-append_right : (ps qs : Places) (id : Id) → address_of ps id ≡ None → address_of (ps ++ qs) id ≡ address_of qs id
address_of-append_right [] qs id is = refl
address_of-append_right (p ∷ ps) qs id is =
    none_found (is_same_id p.0 id) p.1 (address_of ps id) (address_of (ps ++ qs) id) (address_of qs id) (λ behind. address_of-append_right ps qs id behind) is

-- addresses after addresses
pub addresses-append : (ps qs : Places) → addresses (ps ++ qs) ≡ addresses ps ++ addresses qs
addresses-append [] qs = refl
addresses-append (p ∷ ps) qs = ap (λ xs. p.1 ∷ xs) (addresses-append ps qs)

-- the promoted objects stand at their new addresses
pub addresses-promoted : (area : AreaState) (ms : List Move) → addresses (promoted_places area ms) ≡ map (λ m. m.1) ms
addresses-promoted area [] = refl
addresses-promoted area (m ∷ ms) = ap (λ xs. m.1 ∷ xs) (addresses-promoted area ms)

-- The promoted ones.

-- An object that starts there in the area, under its name.
pub record IsOwnAt (area : AreaState) (g : Graph) (t made at : ℕ) : Type 0 where
  pub id : Id
  pub own : IsOwn t made id
  pub index : index_of g id ≡ at
  pub name : id_at area.words at ≡ id

module _ (area : AreaState) (g : Graph) (t made : ℕ) where
  -- an object of the transaction stands where it moves to
  pub address_of-promoted : (starts : List ℕ) (address : ℕ) (id : Id) → ((at : ℕ) → Contains starts at → IsOwnAt area g t made at) → IsOwn t made id
      → address_of (promoted_places area (moves_to area starts address)) id ≡ moved (moves_to area starts address) (index_of g id)
  address_of-promoted [] address id each own = refl
  address_of-promoted (at ∷ rest) address id each own =
      let there = each at (Contains-head at rest) in
      let ms = moves_to area rest (address + words_taken area at) in
      elim (same_or_other (id_at area.words at) id) [
        | inl same ↦
            let index : at ≡ index_of g id = sym there.index ∙ ap (index_of g) (sym there.name ∙ same) in
            ap (λ x. address_of (promoted_places area ((at, address) ∷ ms)) x) (sym same) ∙ address_of-head (id_at area.words at, address) (promoted_places area ms)
            ∙ sym (moved-head (at, address) ms) ∙ ap (moved ((at, address) ∷ ms)) index
        | inr other ↦
            address_of-rest (id_at area.words at, address) (promoted_places area ms) id other
            ∙ address_of-promoted rest (address + words_taken area at) id (λ a has. each a (Contains-rest at rest a has)) own
            ∙ sym (moved-rest (at, address) ms (index_of g id) (λ same. other (there.name ∙ index_of-one g t made there.id id there.own own (there.index ∙ same))))
      ]

  -- each object that is promoted is the transaction's own
  pub promoted_own : (starts : List ℕ) (address : ℕ) (id : Id) (at : ℕ) → ((at : ℕ) → Contains starts at → IsOwnAt area g t made at)
      → address_of (promoted_places area (moves_to area starts address)) id ≡ Some at → IsOwn t made id
  promoted_own [] address id at each is = absurd (cc is)
  promoted_own (s ∷ rest) address id at each is =
      let there = each s (Contains-head s rest) in
      elim (address_of-cases (id_at area.words s, address) (promoted_places area (moves_to area rest (address + words_taken area s))) id at is) [
        | inl here ↦ subst (IsOwn t made) (sym there.name ∙ here.0) there.own
        | inr behind ↦ promoted_own rest (address + words_taken area s) id at (λ a has. each a (Contains-rest s rest a has)) behind
      ]
