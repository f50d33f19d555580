-- What a reader finds in the words of a heap: an object's length, and the fields that are not gray.
use Rattle.std.proofs.Common.{◌≡◌, ℕ, ◌+◌, ◌<◌, inl, inr, false, List, ◌++◌, length, map, Some, sym, ◌∙◌, subst, arith, ext_get_or}
use Rattle.std.specs.Prelude.{slice_index, slice_index_or}
use Rattle.std.specs.List.{AllByRecursion}
use Rattle.std.proofs.lemmas.List.{get_or-map, length-map}
use Rattle.std.proofs.lemmas.Option.{get_or_from_slice_get, slice_get_within}
use Rattle.heap_words.specs.Word.{meaning}
use Rattle.graph_model.specs.Graph.{Graph, fields}
use Rattle.graph_model.specs.declared.id.Id.{Id}
use Rattle.graph_model.specs.declared.val.Val.{Val}
use Rattle.graph_model.specs.declared.val.Val.TheVariants.{Null}
use Rattle.object_layout.specs.Layout.{field_words, object_at}
use Rattle.object_layout.proofs.LayoutLaws.{length-field_words}
use Rattle.log_machine.proofs.ListLaws.{AllByRecursion-at}
use Rattle.log_machine.specs.declared.UndoEntry.{UndoEntry}
use Rattle.log_machine.specs.Machine.{State, field_at, taken_back}
use Rattle.graph_words.specs.Places.{IsVisible, Places, address_of, addresses, bits_of, place_of}
use Rattle.graph_words.proofs.Places.Addresses.{address_of-Contains}
use Rattle.graph_words.proofs.Places.Lists.{AllByRecursion-from_get}
use Rattle.graph_words.proofs.Seal.Places.{address_of-append_left}
use Rattle.graph_words.proofs.Stands.Objects.{stands_field, stands_object, word_at_field}
use Rattle.collection_words.specs.Completed.{StandsCompleted, future}
use Rattle.collection_words.specs.LaidOut.{LeadsHere, is_gray_field}
use Rattle.collection_words.specs.Writes.{AreBacked}
use Rattle.collection_words.proofs.Copy.Named.{own_front}
use Rattle.collection_words.proofs.Copy.Stands.{completed_own}
use Rattle.collection_words.proofs.Laid.Followed.{raw_word}
use Rattle.collection_words.proofs.Laid.Sources.{here_ends}
use Rattle.collection_words.proofs.Laid.Within.{start_within}
use Rattle.collection_words.proofs.Steps.Collected.{here_length, here_value, here_visible}
use Rattle.seen_laws.specs.Heap.{IsFieldHere, IsHeap, IsUnwritten}
use Rattle.seen_laws.proofs.Kept.{back, backed_are_fields, heap_cases, object_taken_back, unwritten_word}
use Rattle.seen_laws.proofs.Over.{plain_stands}

-- Objects.

length_left : {s : State} {places remaining : Places} {words : List ℕ} {t made : ℕ} {g : Graph} (us : List UndoEntry) → IsHeap s places remaining words → AreBacked places words us
    → StandsCompleted t made places remaining g us words s → (id : Id) (at : ℕ) → address_of places id ≡ Some at → object_at (taken_back us words) at ≡ Some (length (fields g id))
length_left {s} {places} {remaining} {words} us heap backed stands id at there = elim (heap_cases heap) [
  | inl none ↦ stands_object (plain_stands s places remaining words us none.0 none.1 stands) id at there
  | inr run ↦ let left = back us run.1 backed stands in here_length left.is left.stands id at there
]

-- a current object stands in the words with as many fields as in the graph
pub object_here : {s : State} {places remaining : Places} {words : List ℕ} {t made : ℕ} {g : Graph} (us : List UndoEntry) → IsHeap s places remaining words → AreBacked places words us
    → StandsCompleted t made places remaining g us words s → (id : Id) (at : ℕ) → address_of places id ≡ Some at → object_at words at ≡ Some (length (fields g id))
object_here {s} {places} {remaining} {words} us heap backed stands id at there =
    let has = address_of-Contains places id at there in
    let object = start_within heap.laid at has in
    let left = object_taken_back us words s.base (addresses places) (s.base + s.used) at object.fields (here_ends heap.laid) (backed_are_fields places words us backed) has object.object in
    object.object ∙ sym left ∙ length_left us heap backed stands id at there

-- Fields.

-- A field has the word of a value that a transaction sees over the current objects.
record IsValueHere (t made : ℕ) (places : Places) (g : Graph) (v : Val) (w : ℕ) : Type 0 where
  word : w ≡ bits_of (place_of places g) v
  visible : IsVisible places t made v

value_left : {s : State} {places remaining : Places} {words : List ℕ} {t made : ℕ} {g : Graph} (us : List UndoEntry) → IsHeap s places remaining words → AreBacked places words us
    → StandsCompleted t made places remaining g us words s → (id : Id) (at i : ℕ) → address_of places id ≡ Some at → i < length (fields g id) → is_gray_field s.collection at i ≡ false
    → IsValueHere t made places g (slice_index_or (fields g id) i Null) (slice_index (taken_back us words) (field_at at i))
value_left {s} {places} {remaining} {words} {t} {made} {g} us heap backed stands id at i there within black = elim (heap_cases heap) [
  | inl none ↦
      let stood = plain_stands s places remaining words us none.0 none.1 stands in
      record { word = stands_field stood id at i there within; visible = AllByRecursion-at (IsVisible places t made) (fields g id) i Null within (stood.visible id at there) }
  | inr run ↦
      let left = back us run.1 backed stands in
      let others = taken_back us words in
      let P = places ++ future s others remaining in
      let v = slice_index_or (fields g id) i Null in
      let has = address_of-Contains places id at there in
      let object = here_length left.is left.stands id at there in
      let placed = address_of-append_left places (future s others remaining) id at there in
      let own = own_front places remaining (completed_own us run.1 stands) in
      let raw = sym (raw_word left.is at (length (fields g id)) i has object within black) ∙ stands_field left.stands id at i placed within in
      let leads : LeadsHere (addresses places) (meaning (bits_of (place_of P g) v)) =
      subst (λ (w : ℕ). LeadsHere (addresses places) (meaning w)) raw (left.is.laid.here at has (length (fields g id)) i object within black) in
      record {
        word = raw ∙ here_value left.is own left.stands v leads;
        visible = here_visible left.is own left.stands v leads (AllByRecursion-at (IsVisible P t made) (fields g id) i Null within (left.stands.visible id at placed));
      }
]

-- a field that is not gray, and that these writes did not write, has the word of its value, which leads to current objects
pub field_here : {s : State} {places remaining : Places} {words : List ℕ} {t made : ℕ} {g : Graph} (us : List UndoEntry) → IsHeap s places remaining words → AreBacked places words us
    → StandsCompleted t made places remaining g us words s → (id : Id) (at i : ℕ) → address_of places id ≡ Some at → i < length (fields g id) → is_gray_field s.collection at i ≡ false → IsUnwritten us (field_at at i)
    → IsFieldHere t made places g words id at i
field_here {s} {places} {remaining} {words} {g = g} us heap backed stands id at i there within black unwritten =
    let value = value_left us heap backed stands id at i there within black in
    record {
      word = sym (unwritten_word us words (field_at at i) unwritten) ∙ value.word;
      visible = value.visible;
      leads = heap.laid.here at (address_of-Contains places id at there) (length (fields g id)) i (object_here us heap backed stands id at there) within black;
    }

-- so an object that is not gray, and of which these writes wrote no field, has all its words
pub fields_here : {s : State} {places remaining : Places} {words : List ℕ} {t made : ℕ} {g : Graph} (us : List UndoEntry) → IsHeap s places remaining words → AreBacked places words us
    → StandsCompleted t made places remaining g us words s → (id : Id) (at : ℕ) → address_of places id ≡ Some at
    → ((i : ℕ) → i < length (fields g id) → IsFieldHere t made places g words id at i)
    → (field_words words at ≡ map (bits_of (place_of places g)) (fields g id)) × AllByRecursion (IsVisible places t made) (fields g id)
fields_here {places = places} {words = words} {t = t} {made = made} {g = g} us heap backed stands id at there each =
    let vs = fields g id in
    let word = bits_of (place_of places g) in
    let object = object_here us heap backed stands id at there in
    let many = length-field_words words at (length vs) object in (
      ext_get_or 0 (field_words words at) (map word vs) (many ∙ sym (length-map vs word)) (λ i lt.
          let within : i < length vs = omega arith in
          sym (word_at_field words at (length vs) i object within) ∙ (each i within).word ∙ sym (get_or-map word vs i Null 0 within)),
      AllByRecursion-from_get (IsVisible places t made) vs (λ i v got.
          subst (IsVisible places t made) (get_or_from_slice_get vs i v Null got) (each i (slice_get_within vs i v got)).visible),
    )
