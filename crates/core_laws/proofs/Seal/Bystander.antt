-- What a transaction that continues sees while another one is sealed: it stands after the seal as before.
use Rattle.std.proofs.Common.{◌≡◌, ◌≢◌, inl, inr, ℕ, ◌+◌, ◌<◌, ◌≤◌, List, [], ◌∷◌, length, get_or, Option, None, Some, is_some, refl, sym, ap, ◌∙◌, subst, arith}
use Rattle.std.specs.Prelude.{Contains, slice_get, unwrap_or}
use Rattle.std.specs.List.{AllByRecursion}
use Rattle.std.specs.FinMap.{get}
use Rattle.std.proofs.lemmas.List.{get_or-set_other, get_or-take, map-id}
use Rattle.std.proofs.lemmas.Option.{same_Some}
use Rattle.heap_words.specs.declared.Word.TheVariants as word
use Rattle.graph_model.specs.declared.id.Id.{Id}
use Rattle.graph_model.specs.declared.val.Val.{Val}
use Rattle.graph_model.specs.declared.val.Val.TheVariants.{Null, Int, Ref}
use Rattle.graph_model.specs.Graph.{Graph, fields, root}
use Rattle.graph_model.specs.Locking.{Exclusive, Lock}
use Rattle.commit_order.proofs.LockingLaws.{exclusive_or_not}
use Rattle.log_machine.specs.declared.UndoEntry.{UndoEntry}
use Rattle.log_machine.proofs.Fields.{written}
use Rattle.log_machine.proofs.ListLaws.{AllByRecursion-map}
use Rattle.log_machine.specs.Machine.{field_at, taken_back, with_word}
use Rattle.log_machine.proofs.WordsLaws.{length-taken_back}
use Rattle.object_layout.specs.Layout.{object_at, field_words}
use Rattle.object_layout.proofs.LayoutLaws.{object_header}
use Rattle.object_layout.proofs.ObjectLaws.{object_in_take, object_same}
use Rattle.object_layout.specs.Walk.{AreEndToEnd, IsRootAt, used_words}
use Rattle.object_layout.proofs.WalkLaws.{object_take, object_take_end}
use Rattle.graph_words.specs.Area.{HasMade}
use Rattle.graph_words.proofs.Places.Lists.{AllByRecursion-get}
use Rattle.graph_words.specs.Places.{Places, address_of, addresses, index_of, made_by, place_of, IsAtHand, IsOwn, IsVisible}
use Rattle.graph_words.proofs.Places.Addresses.{none_or_some, some_address}
use Rattle.graph_words.proofs.Area.Made.{own_apart}
use Rattle.graph_words.proofs.Stands.ReadBack.{changed_field_words}
use Rattle.graph_words.proofs.Seal.Stands.{ends_on}
use Rattle.graph_words.specs.Stands.{Stands, StandsAt, StandsCommitted, AreWritten, IsOfField, AreOfFields}
use Rattle.graph_words.proofs.Stands.Objects.{stands_field_apart, stands_field_one, stands_get, stands_object, stands_one, stands_placed, stands_words}
use Rattle.graph_words.proofs.Stands.Visible.{StandsAsBefore, area_used-same, committed_address, committed_visible, index_of-same, map_bits_of-same, place_of-apart, place_of-placed}
use Rattle.core_laws.specs.Valid.{AreLockedWrites}

-- A transaction that continues while another one is sealed: what it sees, has made, holds and has written, before and after the seal.
pub record Bystander : Type 0 where
  pub u : ℕ  -- its number
  pub made : ℕ  -- how many objects it has made
  pub locks : List Lock  -- what it holds
  pub undo : List UndoEntry  -- what it has written into the space
  pub places : Places  -- the objects that stand in the current space
  pub g : Graph  -- the graph that it sees
  pub words : List ℕ  -- the words as it sees them
  pub base : ℕ  -- where the space begins
  pub used : ℕ  -- how many words of it are used
  pub later_places : Places  -- the objects that stand in the space after the seal
  pub h : Graph  -- the graph that it sees then
  pub later_words : List ℕ  -- the words as it sees them then
  pub later_used : ℕ  -- how many words are used then
  pub sealed : Graph  -- the graph that the seal leaves
  pub committed : List ℕ  -- the words that are committed then

-- it holds the object exclusively
abbrev pub HoldsAlone : Bystander → Id → Type 0
HoldsAlone c id = Contains c.locks (id, Exclusive)

-- What it saw stood in the words, the seal left a graph that stands in the committed words, and it sees what it made and what it holds as
-- before, and all else as the seal left it.
pub record IsBystander (c : Bystander) : Type 0 where
  pub stands : Stands c.u c.made c.places c.g c.words c.base c.used
  pub has : HasMade c.places c.g c.u c.made
  pub written : AreWritten c.places c.g c.undo
  pub of_fields : AreOfFields c.places c.g c.undo
  pub locked : AreLockedWrites c.places c.locks c.undo
  pub settled : StandsCommitted c.later_places c.sealed c.committed c.base c.later_used
  pub back : taken_back c.undo c.later_words ≡ c.committed
  pub grown : (id : Id) (at : ℕ) → address_of c.places id ≡ Some at → address_of c.later_places id ≡ Some at
  pub apart : (k : ℕ) → address_of c.later_places (made_by c.u k) ≡ None
  pub held_placed : (id : Id) (at : ℕ) → address_of c.later_places id ≡ Some at → HoldsAlone c id → address_of c.places id ≡ Some at
  pub lengths : (id : Id) (at : ℕ) → address_of c.places id ≡ Some at → length (fields c.sealed id) ≡ length (fields c.g id)
  pub own : (k : ℕ) → 1 ≤ k → k ≤ c.made → get c.h (made_by c.u k) ≡ get c.g (made_by c.u k)
  pub held : (id : Id) (at : ℕ) → address_of c.places id ≡ Some at → HoldsAlone c id → get c.h id ≡ get c.g id
  pub others : (id : Id) (at : ℕ) → address_of c.later_places id ≡ Some at → (HoldsAlone c id → ⊥) → get c.h id ≡ get c.sealed id
  pub held_words : (id : Id) (at : ℕ) → address_of c.places id ≡ Some at → HoldsAlone c id → field_words c.later_words at ≡ field_words c.words at

-- The words.

-- a word that these writes did not write stays when they are taken back
beside_taken_back : (us : List UndoEntry) (now : List ℕ) (x : ℕ) → AllByRecursion (λ v. x ≢ written v) us → get_or (taken_back us now) x 0 ≡ get_or now x 0
beside_taken_back [] now x other = refl
beside_taken_back (v ∷ us) now x other = beside_taken_back us (with_word now v.object v.field v.was) x other.1 ∙ get_or-set_other now (written v) x v.was 0 other.0

-- A write of a field of an object that stands in the current space and is held exclusively.
record IsHeldField (places : Places) (g : Graph) (locks : List Lock) (v : UndoEntry) : Type 0 where
  id : Id
  object : address_of places id ≡ Some v.object
  field : v.field < length (fields g id)
  holds : Contains locks (id, Exclusive)

-- writes of fields are such where they are of objects that are held so
held_fields : {t made : ℕ} {places : Places} {g : Graph} {words : List ℕ} {base used : ℕ} → Stands t made places g words base used
    → (locks : List Lock) (us : List UndoEntry) → AreOfFields places g us → AreLockedWrites places locks us → AllByRecursion (IsHeldField places g locks) us
held_fields stands locks [] all locked = tt
held_fields stands locks (v ∷ us) all locked =
    let one = all.0 in
    let lock = locked.0 in
    let same : one.id ≡ lock.id = stands_one stands one.id lock.id v.object one.object lock.object in (
      record { id = one.id; object = one.object; field = one.field; holds = subst (λ (x : Id). Contains locks (x, Exclusive)) (sym same) lock.lock },
      held_fields stands locks us all.1 locked.1,
    )

-- a write of it is of a field of an object that it holds exclusively
abbrev Wrote : Bystander → UndoEntry → Type 0
Wrote c v = IsHeldField c.places c.g c.locks v

-- each of its writes is such
each_held : (c : Bystander) → IsBystander c → AllByRecursion (Wrote c) c.undo
each_held c is = held_fields is.stands c.locks c.undo is.of_fields is.locked

module _ (c : Bystander) (is : IsBystander c) where
  -- each is of a field of the graph that the seal left
  sealed_field : (v : UndoEntry) (one : Wrote c v) → v.field < length (fields c.sealed one.id)
  sealed_field v one = let field = one.field in omega (arith, is.lengths one.id v.object one.object)

  no_header : (id : Id) (at : ℕ) → address_of c.later_places id ≡ Some at → (v : UndoEntry) → Wrote c v → at ≢ written v
  no_header id at there v one same =
      let object = is.grown one.id v.object one.object in
      elim (stands_field_apart is.settled one.id id v.object at v.field object there (sealed_field v one)) [
        | inl equal ↦ let place = same_Some v.object at (sym object ∙ ap (address_of c.later_places) equal ∙ there) in omega arith
        | inr (inl before) ↦ omega arith
        | inr (inr behind) ↦ omega arith
      ]

  no_birth : (id : Id) (at : ℕ) → address_of c.later_places id ≡ Some at → (v : UndoEntry) → Wrote c v → at + 1 ≢ written v
  no_birth id at there v one same =
      let object = is.grown one.id v.object one.object in
      elim (stands_field_apart is.settled one.id id v.object at v.field object there (sealed_field v one)) [
        | inl equal ↦ let place = same_Some v.object at (sym object ∙ ap (address_of c.later_places) equal ∙ there) in omega arith
        | inr (inl before) ↦ omega arith
        | inr (inr behind) ↦ omega arith
      ]

  no_field : (id : Id) (at i : ℕ) → address_of c.later_places id ≡ Some at → i < length (fields c.sealed id) → (HoldsAlone c id → ⊥) → (v : UndoEntry) → Wrote c v → field_at at i ≢ written v
  no_field id at i there within free v one same =
      let object = is.grown one.id v.object one.object in
      let both = stands_field_one is.settled one.id id v.object at v.field i object there (sealed_field v one) within (sym same) in
      free (subst (HoldsAlone c) both.0 one.holds)

  -- a word that it did not write is the committed one
  word_left : (x : ℕ) → ((v : UndoEntry) → Wrote c v → x ≢ written v) → get_or c.later_words x 0 ≡ get_or c.committed x 0
  word_left x other =
      sym (beside_taken_back c.undo c.later_words x (AllByRecursion-map (Wrote c) (λ v. x ≢ written v) c.undo other (each_held c is)))
      ∙ ap (λ ws. get_or ws x 0) is.back

  long : length c.later_words ≡ length c.committed
  long = sym (length-taken_back c.undo c.later_words) ∙ ap length is.back

  -- each object stands in its words where it stands in the committed ones
  later_object : (id : Id) (at : ℕ) → address_of c.later_places id ≡ Some at → object_at c.later_words at ≡ Some (length (fields c.sealed id))
  later_object id at there =
      let n = length (fields c.sealed id) in
      let object = stands_object is.settled id at there in
      let within = (object_header c.committed at n object).1 in
      object_same c.committed c.later_words at n object (word_left at (no_header id at there)) (omega (arith, long))

  -- with the same fields, where it does not hold it
  later_fields : (id : Id) (at : ℕ) → address_of c.later_places id ≡ Some at → (HoldsAlone c id → ⊥) → field_words c.later_words at ≡ field_words c.committed at
  later_fields id at there free =
      changed_field_words (λ w. w) c.committed c.later_words at (length (fields c.sealed id)) (stands_object is.settled id at there) (record {
        same = long;
        header_same = word_left at (no_header id at there);
        birth_same = word_left (at + 1) (no_birth id at there);
        fields_changed = λ i within. word_left (field_at at i) (no_field id at i there within free);
      })
      ∙ map-id (field_words c.committed at)

  later_ends : AreEndToEnd (used_words c.later_words c.base c.later_used) c.base (addresses c.later_places) (c.base + c.later_used)
  later_ends = ends_on (used_words c.committed c.base c.later_used) (used_words c.later_words c.base c.later_used) c.base (addresses c.later_places) (c.base + c.later_used) is.settled.ends (λ at n has object.
      let there = stands_placed is.settled at has in
      let same : length (fields c.sealed there.0) ≡ n =
      same_Some (length (fields c.sealed there.0)) n (sym (stands_object is.settled there.0 at there.1) ∙ object_take c.committed (c.base + c.later_used) at n object) in
      object_in_take c.later_words (c.base + c.later_used) at n (later_object there.0 at there.1 ∙ ap Some same) (object_take_end c.committed (c.base + c.later_used) at n object))

  later_root : IsRootAt (used_words c.later_words c.base c.later_used) c.base
  later_root =
      let root_object = is.settled.root_object in
      let place = is.settled.root_place in
      let end = object_take_end c.committed (c.base + c.later_used) c.base 4 root_object.length in
      let same = sym (stands_object is.settled root c.base place) ∙ object_take c.committed (c.base + c.later_used) c.base 4 root_object.length in
      record {
        length = object_in_take c.later_words (c.base + c.later_used) c.base 4 (later_object root c.base place ∙ same) end;
        birth = get_or-take (c.base + c.later_used) c.later_words (c.base + 1) 0 (omega arith) ∙ word_left (c.base + 1) (no_birth root c.base place)
            ∙ sym (get_or-take (c.base + c.later_used) c.committed (c.base + 1) 0 (omega arith)) ∙ root_object.birth;
      }

  -- Where objects stand.
  own_length : (k : ℕ) → 1 ≤ k → k ≤ c.made → length (fields c.h (made_by c.u k)) ≡ length (fields c.g (made_by c.u k))
  own_length k first last = ap (λ o. length (unwrap_or o [])) (is.own k first last)

  own_index : (id : Id) → IsOwn c.u c.made id → index_of c.h id ≡ index_of c.g id
  own_index id own =
      let last = own.last in
      index_of-same c.g c.h id (λ k first less.
      subst (λ (t : ℕ). length (fields c.h (made_by t k)) ≡ length (fields c.g (made_by t k))) (sym own.maker) (own_length k first (omega arith)))

  own_later : (id : Id) → id.t ≡ c.u → address_of c.later_places id ≡ None
  own_later id maker = ap (λ t. address_of c.later_places (made_by t id.k)) maker ∙ is.apart id.k

  -- what was at hand stands where it did
  as_before : StandsAsBefore c.places c.u c.made (place_of c.places c.g) (place_of c.later_places c.h)
  as_before id (inl there) =
      let at = some_address (address_of c.places id) there in
      place_of-placed c.later_places c.h id at.0 (is.grown id at.0 at.1) ∙ sym (place_of-placed c.places c.g id at.0 at.1)
  as_before id (inr own) =
      place_of-apart c.later_places c.h id (own_later id own.maker) ∙ ap word.Volatile (own_index id own) ∙ sym (place_of-apart c.places c.g id (own_apart is.has own))

  -- and is at hand
  hand_on : (id : Id) → IsAtHand c.places c.u c.made id → IsAtHand c.later_places c.u c.made id
  hand_on id (inl there) = let at = some_address (address_of c.places id) there in inl (ap is_some (is.grown id at.0 at.1))
  hand_on id (inr own) = inr own

  -- what is committed stands where the seal left it
  as_sealed : StandsAsBefore c.later_places 0 0 (place_of c.later_places c.sealed) (place_of c.later_places c.h)
  as_sealed id at_hand =
      let at = committed_address c.later_places id at_hand in
      place_of-placed c.later_places c.h id at.0 at.1 ∙ sym (place_of-placed c.later_places c.sealed id at.0 at.1)

  held_each : (id : Id) (at : ℕ) → address_of c.later_places id ≡ Some at → HoldsAlone c id → StandsAt (place_of c.later_places c.h) c.h c.later_words id at
  held_each id at there holds =
      let old = is.held_placed id at there holds in
      record {
        values = fields c.g id;
        is = is.held id at old holds ∙ stands_get is.stands id at old;
        object = later_object id at there ∙ ap Some (is.lengths id at old);
        fields = is.held_words id at old holds ∙ stands_words is.stands id at old
            ∙ sym (map_bits_of-same c.places c.u c.made (place_of c.places c.g) (place_of c.later_places c.h) as_before (fields c.g id) (is.stands.visible id at old));
      }

  free_each : (id : Id) (at : ℕ) → address_of c.later_places id ≡ Some at → (HoldsAlone c id → ⊥) → StandsAt (place_of c.later_places c.h) c.h c.later_words id at
  free_each id at there free = record {
    values = fields c.sealed id;
    is = is.others id at there free ∙ stands_get is.settled id at there;
    object = later_object id at there;
    fields = later_fields id at there free ∙ stands_words is.settled id at there
        ∙ sym (map_bits_of-same c.later_places 0 0 (place_of c.later_places c.sealed) (place_of c.later_places c.h) as_sealed (fields c.sealed id) (is.settled.visible id at there));
  }

  later_each : (id : Id) (at : ℕ) → address_of c.later_places id ≡ Some at → StandsAt (place_of c.later_places c.h) c.h c.later_words id at
  later_each id at there = elim (exclusive_or_not c.locks id) [ inl holds ↦ held_each id at there holds | inr free ↦ free_each id at there free ]

  value_on : (v : Val) → IsVisible c.places c.u c.made v → IsVisible c.later_places c.u c.made v
  value_on Null seen = tt
  value_on (Int n) seen = seen
  value_on (Ref id) seen = hand_on id seen

  -- so what it saw is seen
  values_on : (vs : List Val) → AllByRecursion (IsVisible c.places c.u c.made) vs → AllByRecursion (IsVisible c.later_places c.u c.made) vs
  values_on vs seen = AllByRecursion-map (IsVisible c.places c.u c.made) (IsVisible c.later_places c.u c.made) vs value_on seen

  later_visible : (id : Id) (at : ℕ) → address_of c.later_places id ≡ Some at → AllByRecursion (IsVisible c.later_places c.u c.made) (fields c.h id)
  later_visible id at there =
      let Seen : Option (List Val) → Type 0 = λ o. AllByRecursion (IsVisible c.later_places c.u c.made) (unwrap_or o []) in
      elim (exclusive_or_not c.locks id) [
        | inl holds ↦ let old = is.held_placed id at there holds in subst Seen (sym (is.held id at old holds)) (values_on (fields c.g id) (is.stands.visible id at old))
        | inr free ↦ subst Seen (sym (is.others id at there free)) (committed_visible c.later_places c.u c.made (fields c.sealed id) (is.settled.visible id at there))
      ]

-- After the seal.

-- The graph that it sees stands there.
pub beside_stands : (c : Bystander) → IsBystander c → Stands c.u c.made c.later_places c.h c.later_words c.base c.later_used
beside_stands c is = record {
  below = is.settled.below;
  ends = later_ends c is;
  root_object = later_root c is;
  root_place = is.settled.root_place;
  names = is.settled.names;
  each = later_each c is;
  visible = later_visible c is;
}

-- what it made stays
pub beside_made : (c : Bystander) → IsBystander c → HasMade c.later_places c.h c.u c.made
beside_made c is = record {
  each = λ k first last.
      let one = is.has.each k first last in
      record { values = one.values; is = is.own k first last ∙ one.is; short = one.short; visible = values_on c is one.values one.visible };
  apart = is.apart;
  few = let few = is.has.few in omega (arith, area_used-same c.g c.h c.u c.made (own_length c is));
}

-- its writes are those of fields
pub beside_fields : (c : Bystander) → IsBystander c → AreOfFields c.later_places c.h c.undo
beside_fields c is = AllByRecursion-map (Wrote c) (IsOfField c.later_places c.h) c.undo (λ v one. record {
  id = one.id;
  object = is.grown one.id v.object one.object;
  field = let field = one.field in omega (arith, ap (λ o. length (unwrap_or o [])) (is.held one.id v.object one.object one.holds));
}) (each_held c is)

none_before : (c : Bystander) → IsBystander c → (id : Id) → address_of c.later_places id ≡ None → address_of c.places id ≡ None
none_before c is id none = elim (none_or_some (address_of c.places id)) [
  | inl before ↦ before
  | inr old ↦ let clash = sym none ∙ is.grown id old.0 old.1 in cc
]

-- and all fields that lead to what it made are among those that it wrote
pub beside_written : (c : Bystander) → IsBystander c → AreWritten c.later_places c.h c.undo
beside_written c is id target at i there got none = elim (exclusive_or_not c.locks id) [
  | inl holds ↦
      let old = is.held_placed id at there holds in
      is.written id target at i old (ap (λ o. slice_get (unwrap_or o []) i) (sym (is.held id at old holds)) ∙ got) (none_before c is target none)
  | inr free ↦
      let was = ap (λ o. slice_get (unwrap_or o []) i) (sym (is.others id at there free)) ∙ got in
      let place = committed_address c.later_places target (AllByRecursion-get (IsVisible c.later_places 0 0) (fields c.sealed id) i (Ref target) (is.settled.visible id at there) was) in
      let clash = sym none ∙ place.1 in cc
]
