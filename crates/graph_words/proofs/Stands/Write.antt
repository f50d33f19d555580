-- What a transaction sees as it begins, and as it writes: the graph stands in the words, before and after.
use Rattle.std.proofs.Common.{List, None, Some, [], ap, arith, inl, inr, length, length-set, slice_get, slice_set, subst, sym, ℕ, ◌+◌, ◌<◌, ◌∙◌, ◌∷◌, ◌≡◌, ◌≢◌, ◌≤◌, ◌⊎◌}
use Rattle.std.proofs.lemmas.List.{map-set}
use Rattle.std.proofs.lemmas.Option.{same_Some}
use Rattle.std.specs.List.{AllByRecursion}
use Rattle.graph_model.specs.Graph.{Graph, fields, root, with_field}
use Rattle.graph_model.proofs.Whole.Graph.{fields_by_insert, get-insert_other, get-insert_same, same_or_other}
use Rattle.graph_model.specs.declared.id.Id.{Id}
use Rattle.graph_model.specs.declared.val.Val.{Val}
use Rattle.graph_model.specs.declared.val.Val.TheVariants.{Ref}
use Rattle.object_layout.proofs.ObjectLaws.{field_words_beside, field_words_set, object_set, take_set}
use Rattle.object_layout.specs.Walk.{AreEndToEnd, IsRootAt, used_words}
use Rattle.log_machine.proofs.Fields.{written}
use Rattle.log_machine.specs.Machine.{field_at, with_word}
use Rattle.log_machine.proofs.MapLaws.{apart}
use Rattle.log_machine.specs.declared.UndoEntry.{UndoEntry}
use Rattle.graph_words.specs.Area.{HasMade}
use Rattle.graph_words.proofs.Area.Field.{birth_with_word, ends_with_word, object_with_word}
use Rattle.graph_words.proofs.Places.Lists.{AllByRecursion-get, Any-head, Any-rest, got_of_set}
use Rattle.graph_words.proofs.Area.Made.{made_other}
use Rattle.graph_words.specs.Places.{AreOld, IsVisible, Places, address_of, addresses, bits_of, made_by, place_of}
use Rattle.graph_words.proofs.Places.Addresses.{address_of-Contains, old_apart}
use Rattle.graph_words.specs.Stands.{AreWritten, IsWritten, Stands, StandsAt, StandsCommitted}
use Rattle.graph_words.proofs.Stands.Field.{IsField}
use Rattle.graph_words.proofs.Stands.Objects.{stands_field_apart, stands_get, stands_object, stands_used_object, stands_words}
use Rattle.graph_words.proofs.Stands.Visible.{area_used-with_field, committed_address, committed_visible, place_of-with_field, set_visible}

-- The begin.

-- what is committed stands as any transaction sees it
pub committed_stands : {places : Places} {g : Graph} {words : List ℕ} {base used : ℕ} → StandsCommitted places g words base used → (t made : ℕ) → Stands t made places g words base used
committed_stands {places} {g} stands t made = record {
  below = stands.below;
  ends = stands.ends;
  root_object = stands.root_object;
  root_place = stands.root_place;
  names = stands.names;
  each = stands.each;
  visible = λ id at is. committed_visible places t made (fields g id) (stands.visible id at is);
}

-- a transaction begins with no objects, where none of the space has its number
pub begin_made : (places : Places) (g : Graph) (t : ℕ) → ((k : ℕ) → address_of places (made_by t k) ≡ None) → HasMade places g t 0
begin_made places g t apart = record { each = λ k first last. absurd (omega arith); apart = apart; few = omega arith }

-- so does one whose number is none of those before
pub begin_made_next : (places : Places) (g : Graph) (next t : ℕ) → AreOld next places → next ≤ t → 1 ≤ t → HasMade places g t 0
begin_made_next places g next t old above first = begin_made places g t (λ k. old_apart next places t k old above first)

-- and with nothing written
pub begin_written : {places : Places} {g : Graph} {words : List ℕ} {base used : ℕ} → StandsCommitted places g words base used → AreWritten places g []
begin_written {places} {g} stands id target at i is got none =
    let place = committed_address places target (AllByRecursion-get (IsVisible places 0 0) (fields g id) i (Ref target) (stands.visible id at is) got) in
    let clash = sym none ∙ place.1 in cc

-- A write into an object that stands in the space.

-- a field of such an object is one of the used words
pub stands_IsField : {t made : ℕ} {places : Places} {g : Graph} {words : List ℕ} {base used : ℕ} → Stands t made places g words base used
    → (id : Id) (at i : ℕ) → address_of places id ≡ Some at → i < length (fields g id) → IsField (used_words words base used) (addresses places) at i
stands_IsField {places = places} {g = g} stands id at i is within = record {
  start = address_of-Contains places id at is;
  fields = length (fields g id);
  stands = stands_used_object stands id at is;
  within = within;
}

used_with_word : (words : List ℕ) (base used at i w : ℕ) → with_word (used_words words base used) at i w ≡ used_words (with_word words at i w) base used
used_with_word words base used at i w = sym (take_set (base + used) words (field_at at i) w)

write_ends : {t made : ℕ} {places : Places} {g : Graph} {words : List ℕ} {base used : ℕ} (id : Id) (at i w : ℕ) → Stands t made places g words base used
    → address_of places id ≡ Some at → i < length (fields g id) → AreEndToEnd (used_words (with_word words at i w) base used) base (addresses places) (base + used)
write_ends {places = places} {words = words} {base = base} {used = used} id at i w stands is within =
    subst (λ (ws : List ℕ). AreEndToEnd ws base (addresses places) (base + used)) (used_with_word words base used at i w)
    (ends_with_word (used_words words base used) base (addresses places) (base + used) at i w stands.ends (stands_IsField stands id at i is within))

write_root : {t made : ℕ} {places : Places} {g : Graph} {words : List ℕ} {base used : ℕ} (id : Id) (at i w : ℕ) → Stands t made places g words base used
    → address_of places id ≡ Some at → i < length (fields g id) → IsRootAt (used_words (with_word words at i w) base used) base
write_root {places = places} {words = words} {base = base} {used = used} id at i w stands is within =
    let there = stands_IsField stands id at i is within in
    let has = address_of-Contains places root base stands.root_place in
    subst (λ (ws : List ℕ). IsRootAt ws base) (used_with_word words base used at i w) (record {
      length = object_with_word (used_words words base used) base (addresses places) (base + used) at i w base 4 stands.ends there has stands.root_object.length;
      birth = birth_with_word (used_words words base used) base (addresses places) (base + used) at i w base stands.ends there has ∙ stands.root_object.birth;
    })

write_same : {t made : ℕ} {places : Places} {g : Graph} {words : List ℕ} {base used : ℕ} (id : Id) (at i : ℕ) (v : Val) → Stands t made places g words base used → address_of places id ≡ Some at
    → StandsAt (place_of places g) (with_field g id i v) (with_word words at i (bits_of (place_of places g) v)) id at
write_same {places = places} {g = g} {words = words} id at i v stands is =
    let w = bits_of (place_of places g) v in
    let n = length (fields g id) in
    let object = stands_object stands id at is in
    let no_header : field_at at i ≢ at = λ same. omega arith in
    record {
      values = slice_set (fields g id) i v;
      is = get-insert_same g id (slice_set (fields g id) i v);
      object = object_set words (field_at at i) w at n no_header object ∙ ap Some (sym (length-set (fields g id) i v));
      fields = field_words_set words at i w n object ∙ ap (λ ws. slice_set ws i w) (stands_words stands id at is) ∙ sym (map-set (bits_of (place_of places g)) (fields g id) i v);
    }

write_other : {t made : ℕ} {places : Places} {g : Graph} {words : List ℕ} {base used : ℕ} (id : Id) (at i : ℕ) (v : Val) (w : ℕ) → Stands t made places g words base used → address_of places id ≡ Some at
    → i < length (fields g id) → (q : Id) (to : ℕ) → address_of places q ≡ Some to → q ≢ id → StandsAt (place_of places g) (with_field g id i v) (with_word words at i w) q to
write_other {g = g} {words = words} id at i v w stands is within q to there other =
    let m = length (fields g q) in
    let object = stands_object stands q to there in
    let beside : (field_at at i < to) ⊎ (to + 2 + m ≤ field_at at i) = elim (stands_field_apart stands id q at to i is there within) [
      | inl same ↦ absurd (other (sym same))
      | inr apart_there ↦ apart_there
    ] in
    let no_header : field_at at i ≢ to = λ same. elim beside [ inl before ↦ omega arith | inr later ↦ omega arith ] in
    record {
      values = fields g q;
      is = get-insert_other g id q (slice_set (fields g id) i v) other ∙ stands_get stands q to there;
      object = object_set words (field_at at i) w to m no_header object;
      fields = field_words_beside words (field_at at i) w to m object beside ∙ stands_words stands q to there;
    }

write_each : {t made : ℕ} {places : Places} {g : Graph} {words : List ℕ} {base used : ℕ} (id : Id) (at i : ℕ) (v : Val) → Stands t made places g words base used → address_of places id ≡ Some at
    → i < length (fields g id) → (q : Id) (to : ℕ) → address_of places q ≡ Some to → StandsAt (place_of places g) (with_field g id i v) (with_word words at i (bits_of (place_of places g) v)) q to
write_each {places = places} {g = g} {words = words} id at i v stands is within q to there =
    let w = bits_of (place_of places g) v in
    elim (same_or_other q id) [
      | inl same ↦
          let here : at ≡ to = same_Some at to (sym is ∙ ap (address_of places) (sym same) ∙ there) in
          subst (λ (x : Id). StandsAt (place_of places g) (with_field g id i v) (with_word words at i w) x to) (sym same)
          (subst (λ (x : ℕ). StandsAt (place_of places g) (with_field g id i v) (with_word words at i w) id x) here (write_same id at i v stands is))
      | inr other ↦ write_other id at i v w stands is within q to there other
    ]

with_field_visible : {t made : ℕ} {places : Places} {g : Graph} {words : List ℕ} {base used : ℕ} (id : Id) (i : ℕ) (v : Val) → Stands t made places g words base used → IsVisible places t made v
    → AllByRecursion (IsVisible places t made) (fields g id) → (q : Id) (at : ℕ) → address_of places q ≡ Some at → AllByRecursion (IsVisible places t made) (fields (with_field g id i v) q)
with_field_visible {t} {made} {places} {g} id i v stands seen all q at there = fields_by_insert (AllByRecursion (IsVisible places t made)) g id q (slice_set (fields g id) i v)
    (λ same. set_visible places t made (fields g id) i v seen all) (λ other. stands.visible q at there)

-- The graph stands with the new value where the word of the value is written into the field.
pub write_stands : {t made : ℕ} {places : Places} {g : Graph} {words : List ℕ} {base used : ℕ} → Stands t made places g words base used
    → (id : Id) (at i : ℕ) (v : Val) → address_of places id ≡ Some at → i < length (fields g id) → IsVisible places t made v
    → Stands t made places (with_field g id i v) (with_word words at i (bits_of (place_of places g) v)) base used
write_stands {places = places} {g = g} {words = words} stands id at i v is within seen =
    let w = bits_of (place_of places g) v in
    record {
      below = stands.below;
      ends = write_ends id at i w stands is within;
      root_object = write_root id at i w stands is within;
      root_place = stands.root_place;
      names = stands.names;
      each = λ q to there. subst (λ place. StandsAt place (with_field g id i v) (with_word words at i w) q to) (sym (place_of-with_field places g id i v))
          (write_each id at i v stands is within q to there);
      visible = with_field_visible id i v stands seen (stands.visible id at is);
    }

-- what the transaction has made stays
pub write_made : {t made : ℕ} {places : Places} {g : Graph} → HasMade places g t made → (id : Id) (at i : ℕ) (v : Val) → address_of places id ≡ Some at → HasMade places (with_field g id i v) t made
write_made {t} {made} {places} {g} has id at i v is = record {
  each = λ k first last.
      let one = has.each k first last in
      record {
        values = one.values;
        is = get-insert_other g id (made_by t k) (slice_set (fields g id) i v) (made_other has k id at is) ∙ one.is;
        short = one.short;
        visible = one.visible;
      };
  apart = has.apart;
  few = let few = has.few in omega (arith, area_used-with_field g id i v t made);
}

-- and the field is one more that was written
pub write_written : (places : Places) (g : Graph) (undo : List UndoEntry) → AreWritten places g undo → (id : Id) (at i : ℕ) (v : Val) → address_of places id ≡ Some at
    → (u : UndoEntry) → u.object ≡ at → u.field ≡ i → AreWritten places (with_field g id i v) (u ∷ undo)
write_written places g undo written id at i v is u object field q target to j there got none =
    let Led : List Val → Type 0 = λ vs. slice_get vs j ≡ Some (Ref target) → IsWritten (u ∷ undo) to j in
    let before : slice_get (fields g q) j ≡ Some (Ref target) → IsWritten (u ∷ undo) to j =
    λ was. Any-rest (λ x. (x.object ≡ to) × (x.field ≡ j)) u undo (written q target to j there was none) in
    fields_by_insert Led g id q (slice_set (fields g id) i v)
    (λ same now. elim (got_of_set (fields g id) i j v (Ref target) now) [
      | inl here ↦
          let place : at ≡ to = same_Some at to (sym is ∙ ap (address_of places) (sym same) ∙ there) in
          Any-head (λ x. (x.object ≡ to) × (x.field ≡ j)) u undo (object ∙ place, field ∙ sym here)
      | inr was ↦ before (ap (λ x. slice_get (fields g x) j) same ∙ was)
    ])
    (λ other was. before was)
    got
