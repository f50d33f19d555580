-- Objects stay relocated when a field is written in one list of words, and the field that it has become in the other: so they do when writes
-- are taken back.
use Rattle.std.proofs.Common.{◌≡◌, ◌≢◌, ◌⊎◌, ℕ, ◌<◌, inl, inr, List, [], ◌∷◌, Some, sym, ap, ◌∙◌, subst, arith}
use Rattle.std.specs.Prelude.{slice_index, slice_set}
use Rattle.std.proofs.lemmas.Bool.{cases_order}
use Rattle.std.proofs.lemmas.Option.{same_Some}
use Rattle.std.proofs.lemmas.List.{get_or-set_same, get_or-set_other}
use Rattle.graph_model.proofs.Whole.Graph.{same_or_other}
use Rattle.graph_model.specs.declared.id.Id.{Id}
use Rattle.object_layout.specs.Layout.{object_at}
use Rattle.object_layout.specs.Walk.{AreEndToEnd}
use Rattle.object_layout.proofs.LayoutLaws.{object_header}
use Rattle.object_layout.proofs.ObjectLaws.{end_to_end_apart}
use Rattle.log_machine.proofs.ListLaws.{AllByRecursion-map}
use Rattle.log_machine.specs.Machine.{field_at, taken_back, with_word}
use Rattle.log_machine.specs.declared.UndoEntry.{UndoEntry}
use Rattle.graph_words.proofs.Area.Field.{AreFields, birth_with_word, ends_with_word, field_with_word, object_with_word}
use Rattle.graph_words.specs.Places.{Places, address_of, addresses}
use Rattle.graph_words.proofs.Places.Addresses.{address_of-Contains, address_of-one}
use Rattle.graph_words.proofs.Stands.Field.{IsField}
use Rattle.collection_words.specs.Relocated.{AreRelocatedEntries, HasMoved, IsRelocated, IsRelocatedEntry, IsRelocatedObject, IsRelocatedWord}

-- Fields.

-- two fields of placed objects at one address are one
pub field_one : (words : List ℕ) (from : ℕ) (places : Places) (end : ℕ) (a b : Id) (at to n m i j : ℕ) → AreEndToEnd words from (addresses places) end
    → address_of places a ≡ Some at → address_of places b ≡ Some to → object_at words at ≡ Some n → object_at words to ≡ Some m → i < n → j < m
    → field_at at i ≡ field_at to j → (a ≡ b) × (i ≡ j)
field_one words from places end a b at to n m i j ends one other is is' within within' same =
    elim (end_to_end_apart words from (addresses places) end at n to m ends (address_of-Contains places a at one) is (address_of-Contains places b to other) is') [
      | inl equal ↦ (address_of-one words from places end to a b ends (one ∙ ap Some equal) other, omega arith)
      | inr (inl before) ↦ absurd (omega arith)
      | inr (inr behind) ↦ absurd (omega arith)
    ]

-- the word at an address after a write of another one
unwritten : (words : List ℕ) (place word at : ℕ) → place ≢ at → slice_index (slice_set words place word) at ≡ slice_index words at
unwritten words place word at other = get_or-set_other words place at word 0 (λ same. other (sym same))

-- a field is the one that was written, or another one
one_or_other : (a b : Id) (i j : ℕ) → ((a ≡ b) × (i ≡ j)) ⊎ ((a ≡ b) × (i ≡ j) → ⊥)
one_or_other a b i j = elim (same_or_other a b) [
  | inl same ↦ elim (cases_order i j) [
    | inl equal ↦ inl (same, equal)
    | inr (inl less) ↦ inr (λ both. let equal = both.1 in omega arith)
    | inr (inr more) ↦ inr (λ both. let equal = both.1 in omega arith)
  ]
  | inr other ↦ inr (λ both. other both.0)
]

-- One write.

-- Words in which placed objects stand end to end, and others in which they were relocated do.
pub record IsRelocation (places others : Places) (words moved : List ℕ) (from end to stop : ℕ) : Type 0 where
  pub here : AreEndToEnd words from (addresses places) end
  pub there : AreEndToEnd moved to (addresses others) stop
  pub is : IsRelocated places others words moved

-- the field that was written, where its object was relocated
relocated_field : {places others : Places} {words moved : List ℕ} {from end to stop : ℕ} → IsRelocation places others words moved from end to stop → (u v : UndoEntry) → IsRelocatedEntry places others u v
    → IsField words (addresses places) u.object u.field → IsField moved (addresses others) v.object v.field
relocated_field {others = others} moves u v entry field =
    let object = moves.is.each entry.id u.object v.object entry.object in
    let long = same_Some field.fields object.fields (sym field.stands ∙ object.was) in
    let below = field.within in
    let equal = entry.field in
    record { start = address_of-Contains others entry.id v.object entry.object.after; fields = object.fields; stands = object.is; within = omega arith }

written_word : {places others : Places} {words moved : List ℕ} {from end to stop : ℕ} → IsRelocation places others words moved from end to stop → (u v : UndoEntry) → IsRelocatedEntry places others u v
    → IsField words (addresses places) u.object u.field → (id : Id) (at new i : ℕ) → HasMoved places others id at new → (object : IsRelocatedObject places others words moved at new) → i < object.fields
    → IsRelocatedWord places others (slice_index (with_word words u.object u.field u.was) (field_at at i)) (slice_index (with_word moved v.object v.field v.was) (field_at new i))
written_word {places} {others} {words} {moved} {from} {end} {to} {stop} moves u v entry field id at new i place object below =
    let w = with_word words u.object u.field u.was in
    let m = with_word moved v.object v.field v.was in
    let there = relocated_field moves u v entry field in
    let equal = entry.field in
    elim (one_or_other entry.id id u.field i) [
      | inl both ↦
          let here : u.object ≡ at = same_Some u.object at (sym entry.object.before ∙ ap (address_of places) both.0 ∙ place.before) in
          let gone : v.object ≡ new = same_Some v.object new (sym entry.object.after ∙ ap (address_of others) both.0 ∙ place.after) in
          let index = both.1 in
          let one : field_at u.object u.field ≡ field_at at i = omega arith in
          let other : field_at v.object v.field ≡ field_at new i = omega arith in
          let long = (object_header words at object.fields object.was).1 in
          let many = (object_header moved new object.fields object.is).1 in
          let was : slice_index w (field_at at i) ≡ u.was = ap (slice_index w) (sym one) ∙ get_or-set_same words (field_at u.object u.field) u.was 0 (omega arith) in
          let is : slice_index m (field_at new i) ≡ v.was = ap (slice_index m) (sym other) ∙ get_or-set_same moved (field_at v.object v.field) v.was 0 (omega arith) in
          subst (λ (x : ℕ). IsRelocatedWord places others x (slice_index m (field_at new i))) (sym was) (subst (IsRelocatedWord places others u.was) (sym is) entry.was)
      | inr not_both ↦
          let apart : field_at u.object u.field ≢ field_at at i = λ same.
          not_both (field_one words from places end entry.id id u.object at field.fields object.fields u.field i moves.here entry.object.before place.before field.stands object.was field.within below same) in
          let apart_there : field_at v.object v.field ≢ field_at new i = λ same.
          let one = field_one moved to others stop entry.id id v.object new there.fields object.fields v.field i moves.there entry.object.after place.after there.stands object.is there.within below same in
          not_both (one.0, equal ∙ one.1) in
          let was = unwritten words (field_at u.object u.field) u.was (field_at at i) apart in
          let is = unwritten moved (field_at v.object v.field) v.was (field_at new i) apart_there in
          subst (λ (x : ℕ). IsRelocatedWord places others x (slice_index m (field_at new i))) (sym was)
          (subst (IsRelocatedWord places others (slice_index words (field_at at i))) (sym is) (object.led i below))
    ]

-- the objects stay relocated
pub relocated_write : {places others : Places} {words moved : List ℕ} {from end to stop : ℕ} → IsRelocation places others words moved from end to stop → (u v : UndoEntry) → IsRelocatedEntry places others u v
    → IsField words (addresses places) u.object u.field
    → IsRelocation places others (with_word words u.object u.field u.was) (with_word moved v.object v.field v.was) from end to stop
relocated_write {places} {others} {words} {moved} {from} {end} {to} {stop} moves u v entry field =
    let there = relocated_field moves u v entry field in
    record {
      here = ends_with_word words from (addresses places) end u.object u.field u.was moves.here field;
      there = ends_with_word moved to (addresses others) stop v.object v.field v.was moves.there there;
      is = record {
        same = moves.is.same;
        each = λ id at new place.
            let object = moves.is.each id at new place in
            let has = address_of-Contains places id at place.before in
            let has' = address_of-Contains others id new place.after in
            record {
              fields = object.fields;
              was = object_with_word words from (addresses places) end u.object u.field u.was at object.fields moves.here field has object.was;
              is = object_with_word moved to (addresses others) stop v.object v.field v.was new object.fields moves.there there has' object.is;
              birth = birth_with_word moved to (addresses others) stop v.object v.field v.was new moves.there there has' ∙ object.birth
                  ∙ sym (birth_with_word words from (addresses places) end u.object u.field u.was at moves.here field has);
              led = λ i below. written_word moves u v entry field id at new i place object below;
            };
      };
    }

-- Several.

fields_left : (words : List ℕ) (from : ℕ) (starts : List ℕ) (end : ℕ) (u : UndoEntry) (us : List UndoEntry) → AreEndToEnd words from starts end → AreFields words starts (u ∷ us)
    → AreFields (with_word words u.object u.field u.was) starts us
fields_left words from starts end u us ends all =
    AllByRecursion-map (λ v. IsField words starts v.object v.field) (λ v. IsField (with_word words u.object u.field u.was) starts v.object v.field) us
    (λ v is. field_with_word words from starts end u.object u.field u.was v.object v.field ends all.0 is) all.1

-- The objects stay relocated when writes of their fields are taken back, here and there.
pub relocated_taken_back : (us vs : List UndoEntry) {places others : Places} {words moved : List ℕ} {from end to stop : ℕ} → IsRelocation places others words moved from end to stop
    → AreRelocatedEntries places others us vs → AreFields words (addresses places) us → IsRelocation places others (taken_back us words) (taken_back vs moved) from end to stop
relocated_taken_back [] [] moves entries all = moves
relocated_taken_back [] (v ∷ vs) moves entries all = absurd entries
relocated_taken_back (u ∷ us) [] moves entries all = absurd entries
relocated_taken_back (u ∷ us) (v ∷ vs) {places} {others} {words} {moved} {from} {end} moves entries all =
    relocated_taken_back us vs (relocated_write moves u v entries.0 all.0) entries.1 (fields_left words from (addresses places) end u us moves.here all)
