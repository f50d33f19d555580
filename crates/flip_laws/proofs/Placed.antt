-- Where a flip leaves objects: its record places them.
use Rattle.std.proofs.Common.{◌≡◌, ℕ, ◌+◌, Bool, true, false, not, List, [], ◌∷◌, Some, refl, ap, ◌∙◌}
use Rattle.std.specs.Prelude.{map, filter, if◌then◌else◌}
use Rattle.std.specs.List.{AllByRecursion, flat_map}
use Rattle.std.specs.FinSet.{contains, empty}
use Rattle.heap_spaces.specs.declared.collection.CopiedObject.{CopiedObject}
use Rattle.heap_spaces.specs.Addresses.{with_all}
use Rattle.graph_model.specs.declared.id.Id.{Id}
use Rattle.log_records.specs.declared.copies.ObjectCopy.{ObjectCopy}
use Rattle.log_machine.specs.Collecting.{other_base}
use Rattle.log_machine.specs.Machine.{State, spaces_of}
use Rattle.graph_words.specs.Places.{Places, address_of, addresses}
use Rattle.flip_copy.specs.Copied.{flip_record, moved_objects}
use Rattle.collection_words.specs.Placed.{HaveOwnNames}
use Rattle.collection_words.specs.Placing.{moved_by, placing_of, put_at, uncopied_places}
use Rattle.collection_words.proofs.Laid.Names.{names_own}
use Rattle.collection_words.proofs.Laid.Sources.{here_ends}
use Rattle.collection_words.proofs.Placing.{copied_by_pairs, put_end_to_end}
use Rattle.flip_laws.specs.Flip.{CanFlip, collection_begun, copies_of, copy_places, left_places, root_places}
use Rattle.flip_laws.proofs.Lists.{ascend_ends}
use Rattle.flip_laws.proofs.Roots.{pairs_are}

kept_one : (P : Id × ℕ → Type 0) (b : Bool) (p : Id × ℕ) (ps : Places) → P p → AllByRecursion P ps → AllByRecursion P (if b then p ∷ ps else ps)
kept_one P true p ps one all = (one, all)
kept_one P false p ps one all = all

-- what holds of all holds of those that pass a test
pub all_kept : (P : Id × ℕ → Type 0) (f : Id × ℕ → Bool) (ps : Places) → AllByRecursion P ps → AllByRecursion P (filter f ps)
all_kept P f [] all = tt
all_kept P f (p ∷ ps) all = kept_one P (f p) p (filter f ps) all.0 (all_kept P f ps all.1)

same_froms : (copies : List ObjectCopy) → map (λ (copy : ObjectCopy). copy.from) copies ≡ map (λ (c : CopiedObject). c.from) (moved_objects copies)
same_froms [] = refl
same_froms (c ∷ cs) = ap (λ (l : List ℕ). c.from ∷ l) (same_froms cs)

-- The copies stand where the record says, and the others remain.
pub flip_placed : {s : State} {places : Places} {words roots : List ℕ} → CanFlip s places words roots → HaveOwnNames places
    → moved_by (placing_of places []) (flip_record (spaces_of s) words roots) ≡ placing_of (copy_places s words roots places) (left_places s words roots places)
flip_placed {s} {places} {words} {roots} can own =
    let copies = copies_of s words roots in
    let chosen = root_places s words roots places in
    let named : AllByRecursion (λ p. address_of places p.0 ≡ Some p.1) chosen =
    all_kept (λ p. address_of places p.0 ≡ Some p.1) (λ p. contains (collection_begun s words roots).moved p.1) places (names_own places own) in
    let up = ascend_ends words s.base (addresses places) (s.base + s.used) (here_ends can.laid) in
    let there = copied_by_pairs copies places
    ∙ ap (flat_map (λ (m : ℕ × ℕ). put_at places m.0 m.1)) (pairs_are can)
    ∙ put_end_to_end words places s.base chosen (other_base s) up named in
    let rest = ap (λ (xs : List ℕ). filter (λ (p : Id × ℕ). not (contains (with_all empty xs) p.1)) places) (same_froms copies) in
    ap (λ (ps : Places). placing_of ps (uncopied_places copies places)) there ∙ ap (placing_of (copy_places s words roots places)) rest
