-- The objects and fields of a seal: what a placed or a promoted object refers to stands in the space after it, what is promoted can be
-- promoted, and the fields that were written can be put right.
use Rattle.std.proofs.Common.{◌≡◌, ℕ, ◌<◌, ◌^◌, ◌+◌, inl, inr, map, length, None, Some, sym, ap, ◌∙◌, subst, arith}
use Rattle.std.specs.Prelude.{Contains, slice_get, slice_index, slice_index_or}
use Rattle.std.specs.List.{AllByRecursion}
use Rattle.std.proofs.lemmas.List.{length-map}
use Rattle.std.proofs.lemmas.Option.{slice_get-get_or, slice_get_within, get_or_from_slice_get}
use Rattle.heap_words.specs.declared.Header.TheVariants.{Length}
use Rattle.heap_words.specs.Header.{born_in, born_as, header_bits}
use Rattle.heap_words.proofs.HeaderLaws.{born_in-birth_bits, born_as-birth_bits, bits-header}
use Rattle.heap_words.specs.Word.{meaning}
use Rattle.graph_model.specs.declared.id.Id.{Id}
use Rattle.graph_model.specs.declared.val.Val.{Val}
use Rattle.graph_model.specs.declared.val.Val.TheVariants.{Null, Int, Ref}
use Rattle.graph_model.specs.Graph.{fields}
use Rattle.log_machine.specs.Machine.{field_at}
use Rattle.log_machine.specs.UndoEntry.{LiesInside}
use Rattle.object_layout.specs.Layout.{field_words}
use Rattle.object_layout.proofs.LayoutLaws.{object_header}
use Rattle.graph_words.proofs.Area.State.{own_birth, own_words, own_object}
use Rattle.graph_words.proofs.Places.Lists.{AllByRecursion-get, AllByRecursion-from_get, got_of_map}
use Rattle.graph_words.proofs.Area.Made.{own_short, own_visible}
use Rattle.graph_words.specs.Places.{address_of, index_of, IsOwn, IsVisible, bits_of}
use Rattle.graph_words.proofs.Places.Addresses.{none_or_some}
use Rattle.graph_words.specs.Stands.{IsOfField}
use Rattle.graph_words.proofs.Stands.Objects.{visible_meaning, stands_field, stands_short}
use Rattle.graph_words.proofs.Stands.Visible.{place_of-placed}
use Rattle.graph_words.specs.Promotion.{Field, written_fields}
use Rattle.graph_words.proofs.Area.Fields.{written_from_field, field_from_written, write_at}
use Rattle.graph_words.proofs.Places.Moved.{IsMoved}
use Rattle.graph_words.proofs.Promotion.Records.{IsPromotable, IsFixable}
use Rattle.graph_words.proofs.Seal.Sealing.{Sealing, IsSealing, place, area, moves, later_places}
use Rattle.graph_words.proofs.Seal.Values.{IsTaken, own_at, own_few, own_values_taken, taken_visible, taken_moved}

-- What is taken.

refers_apart : (c : Sealing) → IsSealing c → (id target : Id) (at i : ℕ) → address_of c.places id ≡ Some at → slice_get (fields c.g id) i ≡ Some (Ref target) → address_of c.places target ≡ None
    → IsTaken c (Ref target)
refers_apart c is id target at i there got none a meant start =
    let f : Field = (at, i) in
    let has = field_from_written c.undo at i (is.written id target at i there got none) in
    let within = slice_get_within (fields c.g id) i (Ref target) got in
    let stood : slice_index c.words (field_at at i) ≡ bits_of (place c) (Ref target) =
    stands_field is.stands id at i there within ∙ ap (bits_of (place c)) (get_or_from_slice_get (fields c.g id) i (Ref target) Null got) in
    is.promotion.named f a has (ap meaning stood ∙ meant) start

-- each value of an object that stands in the space is taken, if it refers to one of the transaction
pub placed_values_taken : (c : Sealing) → IsSealing c → (id : Id) (at i : ℕ) (v : Val) → address_of c.places id ≡ Some at → slice_get (fields c.g id) i ≡ Some v → IsTaken c v
placed_values_taken c is id at i Null there got a meant start = absurd (cc (meant, visible_meaning is.stands is.has Null tt))
placed_values_taken c is id at i (Int n) there got a meant start =
    let seen = AllByRecursion-get (IsVisible c.places c.t c.made) (fields c.g id) i (Int n) (is.stands.visible id at there) got in
    absurd (cc (meant, visible_meaning is.stands is.has (Int n) seen))
placed_values_taken c is id at i (Ref target) there got a meant start = elim (none_or_some (address_of c.places target)) [
  | inl none ↦ refers_apart c is id target at i there got none a meant start
  | inr old ↦
      let seen = AllByRecursion-get (IsVisible c.places c.t c.made) (fields c.g id) i (Ref target) (is.stands.visible id at there) got in
      absurd (cc (meant, visible_meaning is.stands is.has (Ref target) seen ∙ ap Some (place_of-placed c.places c.g target old.0 old.1)))
]

-- so what an object of the space refers to stands there after the seal
pub placed_visible : (c : Sealing) → IsSealing c → (id : Id) (at : ℕ) → address_of c.places id ≡ Some at → AllByRecursion (IsVisible (later_places c) 0 0) (fields c.g id)
placed_visible c is id at there = AllByRecursion-from_get (IsVisible (later_places c) 0 0) (fields c.g id) (λ i v got.
    taken_visible c is v (AllByRecursion-get (IsVisible c.places c.t c.made) (fields c.g id) i v (is.stands.visible id at there) got) (placed_values_taken c is id at i v there got))

-- and what one refers to that is promoted
pub promoted_visible : (c : Sealing) → IsSealing c → (id : Id) → IsOwn c.t c.made id → Contains c.starts (index_of c.g id) → AllByRecursion (IsVisible (later_places c) 0 0) (fields c.g id)
promoted_visible c is id own has = AllByRecursion-from_get (IsVisible (later_places c) 0 0) (fields c.g id) (λ i v got.
    taken_visible c is v (AllByRecursion-get (IsVisible c.places c.t c.made) (fields c.g id) i v (own_visible is.has own) got) (own_values_taken c is id own has i v got))

-- The objects that are promoted.

own_goes : (c : Sealing) → IsSealing c → (id : Id) → IsOwn c.t c.made id → Contains c.starts (index_of c.g id) → AllByRecursion (IsMoved (moves c)) (field_words (area c).words (index_of c.g id))
own_goes c is id own has =
    subst (AllByRecursion (IsMoved (moves c))) (sym (own_words is.has id own)) (AllByRecursion-from_get (IsMoved (moves c)) (map (bits_of (place c)) (fields c.g id)) (λ i w got.
    let v = got_of_map (bits_of (place c)) (fields c.g id) i w got in
    subst (IsMoved (moves c)) v.2 (taken_moved c is v.0 (AllByRecursion-get (IsVisible c.places c.t c.made) (fields c.g id) i v.0 (own_visible is.has own) v.1) (own_values_taken c is id own has i v.0 v.1))))

-- as many words are fields as the object has
pub own_length : (c : Sealing) → IsSealing c → (id : Id) → IsOwn c.t c.made id → length (field_words (area c).words (index_of c.g id)) ≡ length (fields c.g id)
own_length c is id own = ap length (own_words is.has id own) ∙ length-map (fields c.g id) (bits_of (place c))

-- and its header says so
pub own_header : (c : Sealing) → IsSealing c → (id : Id) → IsOwn c.t c.made id → slice_index (area c).words (index_of c.g id) ≡ header_bits (Length (length (field_words (area c).words (index_of c.g id))))
own_header c is id own =
    let n = length (fields c.g id) in
    (bits-header (slice_index (area c).words (index_of c.g id)) (Length n) (object_header (area c).words (index_of c.g id) n (own_object is.has id own)).0).1
    ∙ ap (λ x. header_bits (Length x)) (sym (own_length c is id own))

own_promotable : (c : Sealing) → IsSealing c → c.t < 2 ^ 32 → (id : Id) → IsOwn c.t c.made id → Contains c.starts (index_of c.g id) → IsPromotable (area c) (moves c) (index_of c.g id)
own_promotable c is small id own has =
    let birth = own_birth is.has id own in
    let few = own_few c.g c.t c.made id is.has.few own in
    let maker = own.maker in
    let first = own.first in
    let t = ap born_in birth ∙ born_in-birth_bits id.t id.k few in
    let k = ap born_as birth ∙ born_as-birth_bits id.t id.k few in
    record {
      few = omega (arith, own_length c is id own, own_short is.has own);
      header = own_header c is id own;
      birth_fits = omega arith;
      own = t ∙ maker;
      first = omega arith;
      goes = own_goes c is id own has;
    }

-- each object that is promoted can be
pub promotable : (c : Sealing) → IsSealing c → c.t < 2 ^ 32 → (at : ℕ) → Contains c.starts at → IsPromotable (area c) (moves c) at
promotable c is small at has =
    let there = own_at c is at has in
    subst (IsPromotable (area c) (moves c)) there.index
    (own_promotable c is small there.id there.own (subst (λ (x : ℕ). Contains c.starts x) (sym there.index) has))

-- The fields that were written.

-- A field of an object that stands in the space.
pub record IsFieldOf (c : Sealing) (f : Field) : Type 0 where
  pub id : Id
  pub object : address_of c.places id ≡ Some f.0
  pub within : f.1 < length (fields c.g id)

-- each of them is such
pub written_field : (c : Sealing) → IsSealing c → (f : Field) → Contains (written_fields c.undo) f → IsFieldOf c f
written_field c is f has =
    let write = write_at (IsOfField c.places c.g) c.undo f.0 f.1 is.of_fields (written_from_field c.undo f has) in
    let one = write.1 in
    let field = one.field in
    let number = write.3 in
    record { id = one.id; object = one.object ∙ ap Some write.2; within = omega arith }

-- and can be put right, where all that was written lies inside these words
pub fixable : (c : Sealing) → IsSealing c → (base used : ℕ) → AllByRecursion (LiesInside base used) c.undo → (f : Field) → Contains (written_fields c.undo) f
    → IsFixable c.words (moves c) base (base + used) f
fixable c is base used inside f has =
    let there = written_field c is f has in
    let id = there.id in
    let within = there.within in
    let write = write_at (LiesInside base used) c.undo f.0 f.1 inside (written_from_field c.undo f has) in
    let above = write.1.above in
    let below = write.1.below in
    let object = write.2 in
    let number = write.3 in
    let v = slice_index_or (fields c.g id) f.1 Null in
    let got : slice_get (fields c.g id) f.1 ≡ Some v = slice_get-get_or (fields c.g id) f.1 Null within in
    let seen = AllByRecursion-get (IsVisible c.places c.t c.made) (fields c.g id) f.1 v (is.stands.visible id f.0 there.object) got in
    record {
      above = omega arith;
      below = omega arith;
      small = omega (arith, stands_short is.stands id f.0 there.object);
      goes = subst (IsMoved (moves c)) (sym (stands_field is.stands id f.0 f.1 there.object within)) (taken_moved c is v seen (placed_values_taken c is id f.0 f.1 v there.object got));
    }
