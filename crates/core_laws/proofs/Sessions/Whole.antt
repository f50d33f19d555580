-- What a transaction sees in the completed words: among all objects there, and among the current ones, to which alone it comes.
use Rattle.std.proofs.Common.{◌≡◌, ℕ, ◌+◌, ◌<◌, inl, inr, true, false, List, length, None, Some, is_some, sym, ap, ◌∙◌, subst, slice_index_or}
use Rattle.std.specs.Prelude.{slice_index}
use Rattle.heap_words.specs.Word.{bits, meaning}
use Rattle.graph_model.specs.declared.id.Id.{Id}
use Rattle.graph_model.specs.declared.val.Val.{Val}
use Rattle.graph_model.specs.declared.val.Val.TheVariants.{Null}
use Rattle.graph_model.specs.Graph.{fields, root}
use Rattle.graph_model.specs.Locking.{Lock}
use Rattle.graph_model.specs.Transaction.{View}
use Rattle.object_layout.specs.Layout.{object_at}
use Rattle.log_machine.specs.Machine.{State, field_at, undo_of}
use Rattle.graph_words.specs.Area.{HasMade}
use Rattle.graph_words.specs.Places.{IsAtHand, IsVisible, Places, address_of, addresses, bits_of, made_by, place_of, word_of}
use Rattle.graph_words.specs.Stands.{AreOfFields}
use Rattle.graph_words.proofs.Places.Addresses.{address_of-Contains, none_or_some}
use Rattle.graph_words.proofs.Seal.Places.{address_of-append_left}
use Rattle.graph_words.proofs.Stands.Objects.{stands_field, visible_meaning}
use Rattle.collection_words.specs.Completed.{completed, completed_places, future}
use Rattle.collection_words.specs.LaidOut.{AreHeapWords, LeadsHere, is_gray_field}
use Rattle.collection_words.proofs.Copy.Stands.{root_current}
use Rattle.collection_words.proofs.Heap.Cases.{heap_word}
use Rattle.collection_words.proofs.Heap.Front.{has_front, same_address, of_fields_front, visible_front, visible_here, visible_leads, word_front}
use Rattle.collection_words.proofs.Moves.Sources.{put_same}
use Rattle.heap_model.proofs.ListLaws.{AllByRecursion-at}
use Rattle.core_laws.proofs.Sessions.OtherWrites.{IsAway, others_at}
use Rattle.core_laws.specs.Valid.{IsWriting}

-- an object that does not remain is none to come
pub none_to_come : (state : State) (words : List ℕ) (remaining : Places) (id : Id) → address_of remaining id ≡ None → address_of (future state words remaining) id ≡ None
none_to_come state words remaining id none = elim (none_or_some (address_of (future state words remaining) id)) [
  | inl is ↦ is
  | inr some ↦
      let never : false ≡ true = sym (ap is_some none) ∙ sym (put_same words remaining (state.base + state.used) id) ∙ ap is_some some.1 in
      absurd (cc never)
]

-- and the other way round
pub none_left : (state : State) (words : List ℕ) (remaining : Places) (id : Id) → address_of (future state words remaining) id ≡ None → address_of remaining id ≡ None
none_left state words remaining id none = elim (none_or_some (address_of remaining id)) [
  | inl is ↦ is
  | inr some ↦
      let never : false ≡ true = sym (ap is_some none) ∙ put_same words remaining (state.base + state.used) id ∙ ap is_some some.1 in
      absurd (cc never)
]

module _ {places remaining : Places} {v : View} {t : ℕ} {locks : List Lock} {words : List ℕ} {state : State} (w : IsWriting places remaining v t locks words state) where
  -- all objects of the completed words
  abbrev pub whole : Places
  whole = completed_places state places remaining words

  -- none that it made is to come
  pub apart_to_come : (k : ℕ) → address_of (future state words remaining) (made_by t k) ≡ None
  apart_to_come k = none_to_come state words remaining (made_by t k) (w.apart k)

  -- what it made is none of them
  pub whole_made : HasMade whole v.graph t v.made
  whole_made = has_front (future state words remaining) w.made apart_to_come

  -- and what it wrote are fields of them
  pub whole_fields : AreOfFields whole v.graph (undo_of state t)
  whole_fields = of_fields_front places (future state words remaining) v.graph (undo_of state t) w.fields

  -- a value that is seen among the current ones has one word
  pub same_word : (x : Val) → IsVisible places t v.made x → bits_of (place_of whole v.graph) x ≡ bits_of (place_of places v.graph) x
  same_word x seen = ap (λ y. bits y) (word_front places (future state words remaining) t v.made w.made.apart apart_to_come v.graph x seen)

  -- and is read as that
  pub meaning_here : (x : Val) → IsVisible places t v.made x → meaning (bits_of (place_of places v.graph) x) ≡ Some (word_of (place_of places v.graph) x)
  meaning_here x seen =
      ap meaning (sym (same_word x seen))
      ∙ visible_meaning w.stands whole_made x (visible_front places (future state words remaining) t v.made x seen)
      ∙ ap Some (word_front places (future state words remaining) t v.made w.made.apart apart_to_come v.graph x seen)

  -- an object at hand has one address
  pub address_here : (id : Id) → IsAtHand places t v.made id → address_of whole id ≡ address_of places id
  address_here id at_hand = same_address places (future state words remaining) t v.made w.made.apart apart_to_come id at_hand

  -- which leads to current objects, or to none
  pub seen_leads : (x : Val) → IsVisible places t v.made x → LeadsHere (addresses places) (meaning (bits_of (place_of places v.graph) x))
  seen_leads x seen =
      subst (λ (b : ℕ). LeadsHere (addresses places) (meaning b)) (same_word x seen) (visible_leads places (future state words remaining) w.stands whole_made x seen)

  -- the root is a current object
  pub rooted : (heap : AreHeapWords state places remaining words) → address_of places root ≡ Some state.base
  rooted heap = root_current heap.laid w.stands.root_place

  -- a field of a current object, where no other transaction has written
  module _ (heap : AreHeapWords state places remaining words) (id : Id) (at : ℕ) (there : address_of places id ≡ Some at) (object : object_at words at ≡ Some (length (fields v.graph id)))
      (i : ℕ) (within : i < length (fields v.graph id)) (away : IsAway state t (field_at at i)) (black : is_gray_field state.collection at i ≡ false) where
    abbrev value : Val
    value = slice_index_or (fields v.graph id) i Null

    raw_is : slice_index words (field_at at i) ≡ bits_of (place_of whole v.graph) value
    raw_is =
        sym (heap_word heap at (length (fields v.graph id)) i (address_of-Contains places id at there) object within black)
        ∙ sym (others_at state t (completed state places remaining words) (field_at at i) away)
        ∙ stands_field w.stands id at i (address_of-append_left places (future state words remaining) id at there) within

    -- its value is seen among the current objects
    pub value_here : IsVisible places t v.made value
    value_here =
        let leads = heap.laid.here at (address_of-Contains places id at there) (length (fields v.graph id)) i object within black in
        let seen = AllByRecursion-at (IsVisible whole t v.made) (fields v.graph id) i Null tt (w.stands.visible id at (address_of-append_left places (future state words remaining) id at there)) in
        visible_here places (future state words remaining) w.stands whole_made value seen (subst (λ (b : ℕ). LeadsHere (addresses places) (meaning b)) raw_is leads)

    -- and its word is that of the value
    pub word_here : slice_index words (field_at at i) ≡ bits_of (place_of places v.graph) value
    word_here = raw_is ∙ same_word value value_here
