-- Where records of a collection leave objects: the address of a copy takes the place of the one at which its object stood.
use Rattle.std.proofs.Common.{◌≡◌, ℕ, suc, ◌+◌, ◌<◌, ◌==◌, inl, inr, Bool, List, [], ◌∷◌, ◌++◌, Some, refl, ap, ◌∙◌, arith}
use Rattle.std.specs.Prelude.{map, filter, if◌then◌else◌}
use Rattle.std.specs.List.{AllByRecursion, flat_map}
use Rattle.std.proofs.lemmas.Bool.{eq-eqb, ne_eqb}
use Rattle.graph_model.specs.declared.id.Id.{Id}
use Rattle.log_records.specs.declared.copies.ObjectCopy.{ObjectCopy}
use Rattle.log_machine.specs.Collecting.{pairs_of}
use Rattle.graph_words.specs.Places.{Places, address_of, addresses}
use Rattle.graph_words.proofs.Places.Addresses.{address_of-Contains, address_of-cases}
use Rattle.collection_words.specs.Completed.{moves_from, places_from, taken_at}
use Rattle.collection_words.specs.Placed.{Ascend}
use Rattle.collection_words.specs.Placing.{copied_places, put_at}
use Rattle.collection_words.proofs.Copy.Ascending.{ascend_low}

-- no object stands below all of them
put_none : (ps : Places) (low to at : ℕ) → at < low → Ascend low (addresses ps) → put_at ps at to ≡ []
put_none [] low to at below up = refl
put_none (p ∷ ps) low to at below up =
    let first = up.0 in
    let Kept : Bool → Places = λ b. map (λ (q : Id × ℕ). (q.0, to)) (if b then p ∷ filter (λ (q : Id × ℕ). q.1 == at) ps else filter (λ (q : Id × ℕ). q.1 == at) ps) in
    ap Kept (ne_eqb p.1 at (λ same. omega arith)) ∙ put_none ps (suc p.1) to at (omega arith) up.1

-- the object that stands at an address is put at another
pub put_one : (ps : Places) (low to : ℕ) (id : Id) (at : ℕ) → Ascend low (addresses ps) → address_of ps id ≡ Some at → put_at ps at to ≡ (id, to) ∷ []
put_one [] low to id at up is = cc
put_one (p ∷ ps) low to id at up is =
    let Kept : Bool → Places = λ b. map (λ (q : Id × ℕ). (q.0, to)) (if b then p ∷ filter (λ (q : Id × ℕ). q.1 == at) ps else filter (λ (q : Id × ℕ). q.1 == at) ps) in
    elim (address_of-cases p ps id at is) [
      | inl here ↦
          let place = here.1 in
          ap Kept (eq-eqb p.1 at here.1)
          ∙ ap (λ (l : Places). (p.0, to) ∷ l) (put_none ps (suc p.1) to at (omega arith) up.1)
          ∙ ap (λ (x : Id). (x, to) ∷ []) here.0
      | inr later ↦
          let above = ascend_low (suc p.1) (addresses ps) at up.1 (address_of-Contains ps id at later) in
          ap Kept (ne_eqb p.1 at (λ same. omega arith)) ∙ put_one ps (suc p.1) to id at up.1 later
    ]

-- what copies leave, by the addresses from which and to which they go
pub copied_by_pairs : (copies : List ObjectCopy) (places : Places) → copied_places copies places ≡ flat_map (λ (m : ℕ × ℕ). put_at places m.0 m.1) (pairs_of copies)
copied_by_pairs [] places = refl
copied_by_pairs (c ∷ cs) places = ap (λ (l : Places). put_at places c.from c.to ++ l) (copied_by_pairs cs places)

-- objects that go end to end are put so
pub put_end_to_end : (words : List ℕ) (places : Places) (low : ℕ) (chosen : Places) (to : ℕ) → Ascend low (addresses places) → AllByRecursion (λ p. address_of places p.0 ≡ Some p.1) chosen
    → flat_map (λ (m : ℕ × ℕ). put_at places m.0 m.1) (moves_from words (addresses chosen) to) ≡ places_from words chosen to
put_end_to_end words places low [] to up all = refl
put_end_to_end words places low (p ∷ ps) to up all =
    let rest = moves_from words (addresses ps) (to + taken_at words p.1) in
    ap (λ (l : Places). l ++ flat_map (λ (m : ℕ × ℕ). put_at places m.0 m.1) rest) (put_one places low to p.0 p.1 up all.0)
    ∙ ap (λ (l : Places). (p.0, to) ∷ l) (put_end_to_end words places low ps (to + taken_at words p.1) up all.1)
