-- The end of a collection: nothing is gray, so nothing leads to what remains, and that goes.
use Rattle.std.proofs.Common.{◌≡◌, ℕ, ◌+◌, ◌<◌, inl, inr, false, List, [], ◌++◌, length, map, None, Some, is_some, refl, sym, ap, ◌∙◌, subst, arith, ext_get_or}
use Rattle.std.specs.Prelude.{Contains, slice_index, slice_index_or, if◌then◌else◌}
use Rattle.std.specs.FinSet.{contains, contains-empty, empty_of_len, len}
use Rattle.std.specs.List.{AllByRecursion}
use Rattle.std.specs.Ordering.{nat_cmp}
use Rattle.std.proofs.lemmas.Bool.{eq-eqb}
use Rattle.std.proofs.lemmas.List.{append-nil, get_or-map, length-map}
use Rattle.std.proofs.lemmas.Option.{get_or_from_slice_get, slice_get_within}
use Rattle.heap_words.specs.declared.Word.{Word}
use Rattle.heap_words.specs.declared.Word.TheVariants as word
use Rattle.heap_words.specs.Word.{bits, meaning}
use Rattle.heap_words.proofs.WordLaws.{meaning-bits}
use Rattle.heap_spaces.specs.Collection.{Collection}
use Rattle.graph_model.specs.Graph.{Graph, fields}
use Rattle.graph_model.specs.declared.id.Id.{Id}
use Rattle.graph_model.specs.declared.val.Val.{Val}
use Rattle.graph_model.specs.declared.val.Val.TheVariants.{Int, Null, Ref}
use Rattle.object_layout.specs.Layout.{field_words, object_at}
use Rattle.object_layout.proofs.LayoutLaws.{length-field_words}
use Rattle.log_machine.specs.Collecting.{collected_in}
use Rattle.log_machine.specs.declared.UndoEntry.{UndoEntry}
use Rattle.log_machine.specs.Machine.{State, field_at, owed, taken_back}
use Rattle.graph_words.proofs.Places.Lists.{AllByRecursion-from_get, AllByRecursion-get}
use Rattle.graph_words.specs.Places.{IsVisible, Places, address_of, addresses, bits_of, place_of}
use Rattle.graph_words.proofs.Places.Addresses.{address_of-Contains, none_or_some, some_address}
use Rattle.graph_words.proofs.Seal.Places.{address_of-append_left}
use Rattle.graph_words.specs.Stands.{Stands, StandsAt}
use Rattle.graph_words.proofs.Stands.Objects.{stands_at, stands_field, stands_get, stands_object, stands_one, stands_within, word_at_field}
use Rattle.graph_words.proofs.Stands.Visible.{place_of-apart, place_of-placed}
use Rattle.collection_words.specs.Completed.{StandsCompleted, completed, future}
use Rattle.collection_words.specs.LaidOut.{IsLaidOut, LeadsHere, is_gray_field}
use Rattle.collection_words.specs.Writes.{AreBacked}
use Rattle.collection_words.specs.Placed.{HaveOwnNames}
use Rattle.collection_words.proofs.Copy.Named.{named, own_front}
use Rattle.collection_words.proofs.Copy.Stands.{completed_own, root_current}
use Rattle.collection_words.proofs.Laid.Completed.{move_made}
use Rattle.collection_words.proofs.Laid.Followed.{move_placed, raw_word}
use Rattle.collection_words.proofs.Laid.Names.{names_own}
use Rattle.collection_words.proofs.Laid.Sources.{IsCollecting, here_ends}
use Rattle.collection_words.proofs.Laid.TakenBack.{completed_taken_back}
use Rattle.collection_words.proofs.Laid.Within.{start_within}
use Rattle.collection_words.proofs.Relocated.Fronts.{ends_front}

-- the state after the end of a collection
abbrev pub collected_state : State → State
collected_state s = record s { collection = None }

-- it can follow where nothing is gray
pub collected_row : {s : State} {k : Collection} {places remaining : Places} {words : List ℕ} → IsCollecting s k places remaining words → len k.gray ≡ 0
    → collected_in s s.collection ≡ Some (collected_state s)
collected_row {s} {k} is none = ap (collected_in s) is.run ∙ ap (λ b. if b then Some (collected_state s) else None) (eq-eqb (len k.gray) 0 none)

none_gray : {s : State} {k : Collection} {places remaining : Places} {words : List ℕ} → IsCollecting s k places remaining words → len k.gray ≡ 0 → (at i : ℕ) → is_gray_field s.collection at i ≡ false
none_gray {k = k} is none at i = ap (λ o. is_gray_field o at i) is.run ∙ ap (λ set. contains set at) (empty_of_len k.gray none) ∙ contains-empty nat_cmp at

-- The words are laid out without a collection.
pub collected_laid : {s : State} {k : Collection} {places remaining : Places} {words : List ℕ} → IsCollecting s k places remaining words → len k.gray ≡ 0 → IsLaidOut (collected_state s) places [] words
collected_laid is none = record {
  filled = is.laid.filled;
  here = λ at has n i object below _. is.laid.here at has n i object below (none_gray is none at i);
  from = refl;
}

-- Values.

-- a reference to an object that is placed now or to come is one to an object of places, where its word leads here
pub here_placed : {s : State} {k : Collection} {places remaining : Places} {words : List ℕ} {t made : ℕ} {g : Graph} → IsCollecting s k places remaining words → HaveOwnNames places
    → Stands t made (places ++ future s words remaining) g (completed s places remaining words) s.base (s.used + owed s) → (id : Id) (at : ℕ) → address_of (places ++ future s words remaining) id ≡ Some at
    → LeadsHere (addresses places) (meaning (bits (word.Stable at))) → address_of places id ≡ Some at
here_placed {s} {places = places} {remaining = remaining} {words = words} is own stands id at there leads =
    let within = stands_within stands id at there in
    let close = within.below in
    let top = stands.below in
    let has : Contains (addresses places) at = subst (LeadsHere (addresses places)) (meaning-bits (word.Stable at) (let small : at < 2097152 = omega arith in small)) leads in
    let object = named places at own has in
    let one = stands_one stands object.0 id at (address_of-append_left places (future s words remaining) object.0 at object.1) there in
    ap (address_of places) (sym one) ∙ object.1

none_front : (ps qs : Places) (id : Id) → address_of (ps ++ qs) id ≡ None → address_of ps id ≡ None
none_front ps qs id none = elim (none_or_some (address_of ps id)) [
  | inl is ↦ is
  | inr there ↦ let clash = sym none ∙ address_of-append_left ps qs id there.0 there.1 in cc
]

-- the word of a value that leads here is its word where only current objects are placed
pub here_value : {s : State} {k : Collection} {places remaining : Places} {words : List ℕ} {t made : ℕ} {g : Graph} → IsCollecting s k places remaining words → HaveOwnNames places
    → Stands t made (places ++ future s words remaining) g (completed s places remaining words) s.base (s.used + owed s) → (v : Val)
    → LeadsHere (addresses places) (meaning (bits_of (place_of (places ++ future s words remaining) g) v)) → bits_of (place_of (places ++ future s words remaining) g) v ≡ bits_of (place_of places g) v
here_value is own stands Null leads = refl
here_value is own stands (Int n) leads = refl
here_value {s} {places = places} {remaining = remaining} {words = words} {g = g} is own stands (Ref id) leads =
    let P = places ++ future s words remaining in
    elim (none_or_some (address_of P id)) [
      | inl none ↦ ap bits (place_of-apart P g id none ∙ sym (place_of-apart places g id (none_front places (future s words remaining) id none)))
      | inr there ↦
          let place = place_of-placed P g id there.0 there.1 in
          let here = here_placed is own stands id there.0 there.1 (subst (λ (x : Word). LeadsHere (addresses places) (meaning (bits x))) place leads) in
          ap bits (place ∙ sym (place_of-placed places g id there.0 here))
    ]

-- and it is seen there
pub here_visible : {s : State} {k : Collection} {places remaining : Places} {words : List ℕ} {t made : ℕ} {g : Graph} → IsCollecting s k places remaining words → HaveOwnNames places
    → Stands t made (places ++ future s words remaining) g (completed s places remaining words) s.base (s.used + owed s) → (v : Val)
    → LeadsHere (addresses places) (meaning (bits_of (place_of (places ++ future s words remaining) g) v)) → IsVisible (places ++ future s words remaining) t made v → IsVisible places t made v
here_visible is own stands Null leads seen = tt
here_visible is own stands (Int n) leads seen = seen
here_visible {s} {places = places} {remaining = remaining} {words = words} {g = g} is own stands (Ref id) leads (inl there) =
    let P = places ++ future s words remaining in
    let place = some_address (address_of P id) there in
    inl (ap is_some (here_placed is own stands id place.0 place.1 (subst (λ (x : Word). LeadsHere (addresses places) (meaning (bits x))) (place_of-placed P g id place.0 place.1) leads)))
here_visible is own stands (Ref id) leads (inr own_one) = inr own_one

-- Objects.

-- What is known of each field of a current object.
record IsHereField (s : State) (places remaining : Places) (words : List ℕ) (g : Graph) (id : Id) (at i : ℕ) : Type 0 where
  raw : slice_index words (field_at at i) ≡ bits_of (place_of (places ++ future s words remaining) g) (slice_index_or (fields g id) i Null)
  leads : LeadsHere (addresses places) (meaning (bits_of (place_of (places ++ future s words remaining) g) (slice_index_or (fields g id) i Null)))

pub here_length : {s : State} {k : Collection} {places remaining : Places} {words : List ℕ} {t made : ℕ} {g : Graph} → IsCollecting s k places remaining words
    → Stands t made (places ++ future s words remaining) g (completed s places remaining words) s.base (s.used + owed s) → (id : Id) (at : ℕ) → address_of places id ≡ Some at
    → object_at words at ≡ Some (length (fields g id))
here_length {s} {places = places} {remaining = remaining} {words = words} {g = g} is stands id at there =
    let has = address_of-Contains places id at there in
    let object = start_within is.laid at has in
    let made = move_made is at at object.fields (move_placed is.laid at has) object.object in
    object.object ∙ sym made.is ∙ stands_object stands id at (address_of-append_left places (future s words remaining) id at there)

here_field : {s : State} {k : Collection} {places remaining : Places} {words : List ℕ} {t made : ℕ} {g : Graph} → IsCollecting s k places remaining words → len k.gray ≡ 0
    → Stands t made (places ++ future s words remaining) g (completed s places remaining words) s.base (s.used + owed s) → (id : Id) (at i : ℕ) → address_of places id ≡ Some at → i < length (fields g id)
    → IsHereField s places remaining words g id at i
here_field {s} {places = places} {remaining = remaining} {words = words} {g = g} is none stands id at i there below =
    let has = address_of-Contains places id at there in
    let n = length (fields g id) in
    let object = here_length is stands id at there in
    let black = none_gray is none at i in
    let raw = sym (raw_word is at n i has object below black) ∙ stands_field stands id at i (address_of-append_left places (future s words remaining) id at there) below in
    record { raw = raw; leads = subst (λ (w : ℕ). LeadsHere (addresses places) (meaning w)) raw (is.laid.here at has n i object below black) }

here_stands : {s : State} {k : Collection} {places remaining : Places} {words : List ℕ} {t made : ℕ} {g : Graph} → IsCollecting s k places remaining words → len k.gray ≡ 0 → HaveOwnNames places
    → Stands t made (places ++ future s words remaining) g (completed s places remaining words) s.base (s.used + owed s) → (id : Id) (at : ℕ) → address_of places id ≡ Some at
    → StandsAt (place_of places g) g words id at
here_stands {s} {places = places} {remaining = remaining} {words = words} {g = g} is none own stands id at there =
    let n = length (fields g id) in
    let object = here_length is stands id at there in
    let many = length-field_words words at n object in
    let size = length-map (fields g id) (bits_of (place_of places g)) in
    stands_at (place_of places g) g words id at (stands_get stands id at (address_of-append_left places (future s words remaining) id at there)) object
    (ext_get_or 0 (field_words words at) (map (bits_of (place_of places g)) (fields g id)) (omega arith) (λ i within.
    let below : i < n = omega arith in
    let field = here_field is none stands id at i there below in
    sym (word_at_field words at n i object below)
    ∙ field.raw
    ∙ here_value is own stands (slice_index_or (fields g id) i Null) field.leads
    ∙ sym (get_or-map (bits_of (place_of places g)) (fields g id) i Null 0 below)))

here_seen : {s : State} {k : Collection} {places remaining : Places} {words : List ℕ} {t made : ℕ} {g : Graph} → IsCollecting s k places remaining words → len k.gray ≡ 0 → HaveOwnNames places
    → Stands t made (places ++ future s words remaining) g (completed s places remaining words) s.base (s.used + owed s) → (id : Id) (at : ℕ) → address_of places id ≡ Some at
    → AllByRecursion (IsVisible places t made) (fields g id)
here_seen {s} {places = places} {remaining = remaining} {words = words} {t = t} {made = made} {g = g} is none own stands id at there =
    AllByRecursion-from_get (IsVisible places t made) (fields g id) (λ i v got.
    let below = slice_get_within (fields g id) i v got in
    let value : slice_index_or (fields g id) i Null ≡ v = get_or_from_slice_get (fields g id) i v Null got in
    let field = here_field is none stands id at i there below in
    let seen = AllByRecursion-get (IsVisible (places ++ future s words remaining) t made) (fields g id) i v (stands.visible id at (address_of-append_left places (future s words remaining) id at there)) got in
    here_visible is own stands v (subst (λ (x : Val). LeadsHere (addresses places) (meaning (bits_of (place_of (places ++ future s words remaining) g) x))) value field.leads) seen)

-- a graph that stands in the completed words of a collection with nothing gray stands in the words
pub black_stands : {s : State} {k : Collection} {places remaining : Places} {words : List ℕ} {t made : ℕ} {g : Graph} → IsCollecting s k places remaining words → len k.gray ≡ 0 → HaveOwnNames places
    → Stands t made (places ++ future s words remaining) g (completed s places remaining words) s.base (s.used + owed s) → Stands t made places g words s.base s.used
black_stands {s} {places = places} {remaining = remaining} {words = words} is none own stands =
    let top = stands.below in
    record {
      below = omega arith;
      ends = ends_front words (s.base + s.used) s.base (addresses places) (s.base + s.used) (omega arith) (here_ends is.laid);
      root_object = is.laid.filled.root;
      root_place = root_current is.laid stands.root_place;
      names = names_own places own;
      each = here_stands is none own stands;
      visible = here_seen is none own stands;
    }

-- A graph that stands in the completed words stands in the words when a collection ends, whatever writes may be taken back.
pub collected_stands : {s : State} {k : Collection} {places remaining : Places} {words : List ℕ} {t made : ℕ} {g : Graph} (us : List UndoEntry) → IsCollecting s k places remaining words → len k.gray ≡ 0
    → AreBacked places words us → StandsCompleted t made places remaining g us words s → StandsCompleted t made places [] g us words (collected_state s)
collected_stands {s} {k} {places} {remaining} {words} {t} {made} {g} us is none backed stands =
    let back = completed_taken_back us is backed in
    let own = own_front places remaining (completed_own us is stands) in
    let there = subst (λ (ps : Places). Stands t made (places ++ ps) g (completed s places remaining (taken_back us words)) s.base (s.used + owed s)) (sym back.future)
    (subst (λ (ws : List ℕ). Stands t made (places ++ future s words remaining) g ws s.base (s.used + owed s)) (sym back.same) stands) in
    let now = black_stands back.is none own there in
    subst (λ (n : ℕ). Stands t made (places ++ []) g (taken_back us words) s.base n) (let same : s.used ≡ s.used + 0 = omega arith in same)
    (subst (λ (ps : Places). Stands t made ps g (taken_back us words) s.base s.used) (sym (append-nil places)) now)
