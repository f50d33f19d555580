-- Where a committed graph stands when undo entries are taken back, only their objects have fields that lead to volatile objects.
use Rattle.std.proofs.Common.{◌≡◌, ◌⊎◌, ℕ, zero, suc, ◌+◌, ◌<◌, inl, inr, true, false, List, [], ◌∷◌, length, get_or, None, Some, refl, sym, ap, ◌∙◌, subst, arith}
use Rattle.std.specs.Prelude.{Contains, slice_index, slice_index_or}
use Rattle.std.specs.List.{AllByRecursion}
use Rattle.std.proofs.lemmas.List.{get_or-set_other}
use Rattle.std.proofs.lemmas.Option.{same_Some}
use Rattle.heap_words.specs.declared.Word.{Word}
use Rattle.heap_words.specs.declared.Word.TheVariants as word
use Rattle.heap_words.specs.Word.{bits, is_volatile}
use Rattle.heap_words.proofs.WordLaws.{is_volatile-bits}
use Rattle.graph_model.specs.declared.id.Id.{Id}
use Rattle.graph_model.specs.declared.val.Val.{Val}
use Rattle.graph_model.specs.declared.val.Val.TheVariants.{Null, Int, Ref}
use Rattle.graph_model.specs.Graph.{Graph}
use Rattle.graph_model.specs.Graph as graph
use Rattle.object_layout.specs.Layout.{object_at}
use Rattle.object_layout.specs.Walk.{AreEndToEnd}
use Rattle.object_layout.proofs.WalkLaws.{Contains-cases, Contains-head, Contains-none, Contains-rest}
use Rattle.log_machine.proofs.ListLaws.{AllByRecursion-map}
use Rattle.log_machine.specs.declared.UndoEntry.{UndoEntry}
use Rattle.log_machine.specs.Machine.{State, field_at, taken_back, with_word}
use Rattle.graph_words.specs.Places.{IsAtHand, IsVisible, Places, address_of, addresses, bits_of, place_of}
use Rattle.graph_words.specs.Stands.{Stands}
use Rattle.graph_words.proofs.Area.Field.{AreFields, ends_with_word, field_apart, field_with_word, object_with_word}
use Rattle.graph_words.proofs.Places.Addresses.{named_at, some_address}
use Rattle.graph_words.proofs.Stands.Visible.{place_of-placed}
use Rattle.graph_words.proofs.Stands.Field.{IsField}
use Rattle.graph_words.proofs.Stands.Objects.{stands_field, stands_object, stands_within}
use Rattle.collection_words.specs.Completed.{StandsCompleted}
use Rattle.collection_words.specs.LaidOut.{EachField, IsLaidOut}
use Rattle.collection_words.proofs.Laid.Sources.{here_ends}
use Rattle.flip_laws.specs.Flip.{AreEntriesOf, HasEntry, IsEntryOf}
use Rattle.flip_laws.proofs.Heap.{plain_stands}

-- Words that are taken back.

-- one of these writes is of the object at an address
abbrev pub IsWrittenBy : List UndoEntry → ℕ → Type 0
IsWrittenBy us at = (u : UndoEntry) × Contains us u × (u.object ≡ at)

-- An object's field is as before.
record IsKept (words others : List ℕ) (at n i : ℕ) : Type 0 where
  object : object_at others at ≡ Some n
  word : slice_index others (field_at at i) ≡ slice_index words (field_at at i)

-- so is one when writes are taken back, or one of them is of its object
written_or_kept : (us : List UndoEntry) (words : List ℕ) (from : ℕ) (starts : List ℕ) (end at n i : ℕ) → AreEndToEnd words from starts end → AreFields words starts us → Contains starts at
    → object_at words at ≡ Some n → i < n → IsWrittenBy us at ⊎ IsKept words (taken_back us words) at n i
written_or_kept [] words from starts end at n i ends all has object below = inr (record { object = object; word = refl })
written_or_kept (u ∷ us) words from starts end at n i ends all has object below =
    let next = with_word words u.object u.field u.was in
    let others = AllByRecursion-map (λ (v : UndoEntry). IsField words starts v.object v.field) (λ v. IsField next starts v.object v.field) us
    (λ v is. field_with_word words from starts end u.object u.field u.was v.object v.field ends all.0 is) all.1 in
    elim (written_or_kept us next from starts end at n i (ends_with_word words from starts end u.object u.field u.was ends all.0) others has
    (object_with_word words from starts end u.object u.field u.was at n ends all.0 has object) below) [
      | inl later ↦ inl (later.0, Contains-rest u us later.0 later.1, later.2)
      | inr kept ↦ elim (field_apart words from starts end u.object u.field at n ends all.0 has object) [
        | inl same ↦ inl (u, Contains-head u us, same)
        | inr (inl before) ↦ inr (record {
          object = kept.object;
          word = kept.word ∙ get_or-set_other words (field_at u.object u.field) (field_at at i) u.was 0 (λ same. omega arith);
        })
        | inr (inr behind) ↦ inr (record {
          object = kept.object;
          word = kept.word ∙ get_or-set_other words (field_at u.object u.field) (field_at at i) u.was 0 (λ same. omega arith);
        })
      ]
    ]

entry_of : (s : State) (us : List UndoEntry) (u : UndoEntry) → AreEntriesOf s us → Contains us u → IsEntryOf s u
entry_of s [] u are has = absurd (Contains-none u has)
entry_of s (v ∷ us) u are has = elim (Contains-cases v us u has) [
  | inl here ↦ subst (IsEntryOf s) here are.0
  | inr behind ↦ entry_of s us u are.1 behind
]

-- Values.

value_at : (P : Val → Type 0) (vs : List Val) (i : ℕ) → AllByRecursion P vs → i < length vs → P (get_or vs i Null)
value_at P [] i all within = absurd (omega arith)
value_at P (v ∷ vs) zero all within = all.0
value_at P (v ∷ vs) (suc i) all within = value_at P vs i all.1 (omega arith)

at_hand_plain : {places : Places} {g : Graph} {words : List ℕ} {base used : ℕ} → Stands 0 0 places g words base used → (id : Id) → IsAtHand places 0 0 id → is_volatile (bits (place_of places g id)) ≡ false
at_hand_plain {places} {g} stands id (inl there) =
    let place = some_address (address_of places id) there in
    let within = stands_within stands id place.0 place.1 in
    let below = within.below in
    let top = stands.below in
    ap (λ (w : Word). is_volatile (bits w)) (place_of-placed places g id place.0 place.1) ∙ is_volatile-bits (word.Stable place.0) (omega arith)
at_hand_plain stands id (inr own) = let first = own.first in let last = own.last in absurd (omega arith)

-- a value that all see has no volatile word
value_plain : {places : Places} {g : Graph} {words : List ℕ} {base used : ℕ} → Stands 0 0 places g words base used → (v : Val) → IsVisible places 0 0 v → is_volatile (bits_of (place_of places g) v) ≡ false
value_plain stands Null seen = is_volatile-bits word.Null tt
value_plain stands (Int n) seen = is_volatile-bits (word.Int n) seen
value_plain stands (Ref id) seen = at_hand_plain stands id seen

-- Each field that leads to a volatile object is one of an object of undo entries.
pub volatile_entries : {s : State} {places : Places} {words : List ℕ} {g : Graph} (us : List UndoEntry) → s.collection ≡ None → IsLaidOut s places [] words → AreFields words (addresses places) us → AreEntriesOf s us
    → StandsCompleted 0 0 places [] g us words s → (at : ℕ) → Contains (addresses places) at → EachField words at (λ i w. is_volatile w ≡ true → HasEntry s at)
volatile_entries {s} {places} {words} {g} us none laid fields are stands at has n i object below volatile =
    elim (written_or_kept us words s.base (addresses places) (s.base + s.used) at n i (here_ends laid) fields has object below) [
      | inl written ↦ (written.0, entry_of s us written.0 are written.1, written.2)
      | inr kept ↦
          let stood = plain_stands s places words us none stands in
          let place = named_at places at stood.names has in
          let values = graph.fields g place.0 in
          let size : n ≡ length values = same_Some n (length values) (sym kept.object ∙ stands_object stood place.0 at place.1) in
          let within : i < length values = omega arith in
          let here = stands_field stood place.0 at i place.1 within in
          let plain = value_plain stood (slice_index_or values i Null) (value_at (IsVisible places 0 0) values i (stood.visible place.0 at place.1) within) in
          let clash : true ≡ false = sym volatile ∙ ap is_volatile (sym kept.word ∙ here) ∙ plain in absurd (cc clash)
    ]
