-- Where some objects were copied and the others stay, the completed words are the words from before, with their objects relocated.
use Rattle.std.proofs.Common.{◌≡◌, ◌⊎◌, ℕ, ◌+◌, inl, inr, List, [], ◌++◌, Option, None, Some, is_some, refl, sym, ap, ◌∙◌, subst, arith}
use Rattle.std.specs.Prelude.{slice_index}
use Rattle.std.proofs.lemmas.Option.{same_Some}
use Rattle.heap_words.specs.declared.Word.{Word}
use Rattle.heap_words.specs.declared.Word.TheVariants as word
use Rattle.heap_words.specs.Word.{meaning, refers_to_stable}
use Rattle.heap_words.proofs.WordLaws.{bits-meaning}
use Rattle.heap_spaces.specs.Collection.{Collection}
use Rattle.graph_model.specs.declared.id.Id.{Id}
use Rattle.log_machine.specs.Machine.{State, field_at, owed}
use Rattle.graph_words.specs.Places.{Places, address_of, addresses}
use Rattle.graph_words.proofs.Places.Addresses.{address_of-Contains}
use Rattle.collection_words.specs.Completed.{IsMade, completed, followed, future}
use Rattle.collection_words.specs.Flipped.{HasStayed, HaveParted, WasCopied}
use Rattle.collection_words.specs.LaidOut.{IsLaidOut, LeadsHere, is_gray_field}
use Rattle.collection_words.specs.Relocated.{HasMoved, HaveSameIds, IsRelocatedObject, IsRelocatedWord}
use Rattle.collection_words.specs.Placed.{HaveOwnNames}
use Rattle.collection_words.proofs.Copy.Moved.{behind_there}
use Rattle.collection_words.proofs.Copy.Named.{RefersTo, followed_plain, forwarded, left, named, refers_followed}
use Rattle.collection_words.proofs.Laid.Completed.{completed_ends, completed_object}
use Rattle.collection_words.proofs.Laid.Sources.{IsCollecting, all_places, here_ends}
use Rattle.collection_words.proofs.Moves.Sources.{put_same}
use Rattle.collection_words.proofs.Relocated.Writes.{IsRelocation}
use Rattle.graph_words.proofs.Seal.Places.{address_of-append_left}

-- Words of a heap without a collection, and those after a flip.
pub record IsFlip (s n : State) (k : Collection) (places currents remaining : Places) (words moved : List ℕ) : Type 0 where
  pub none : s.collection ≡ None
  pub laid : IsLaidOut s places [] words
  pub own : HaveOwnNames places
  pub is : IsCollecting n k currents remaining moved
  pub own_there : HaveOwnNames (currents ++ remaining)
  pub parted : HaveParted n places currents remaining words moved

-- An object of the words, where it stands in the words after the flip.
record IsParted (currents remaining : Places) (words moved : List ℕ) (id : Id) (at : ℕ) : Type 0 where
  to : ℕ
  fields : ℕ
  there : address_of (currents ++ remaining) id ≡ Some to
  same : IsMade (λ w. w) words moved at to fields

parted_object : {s n : State} {k : Collection} {places currents remaining : Places} {words moved : List ℕ} → IsFlip s n k places currents remaining words moved → (id : Id) (at : ℕ)
    → WasCopied n currents words moved id at ⊎ HasStayed remaining words moved id at → IsParted currents remaining words moved id at
parted_object {currents = currents} {remaining = remaining} flip id at (inl copy) =
    record { to = copy.to; fields = copy.fields; there = address_of-append_left currents remaining id copy.to copy.current; same = copy.same }
parted_object {currents = currents} {remaining = remaining} flip id at (inr stay) =
    record { to = at; fields = stay.fields; there = behind_there currents remaining id at flip.own_there stay.left; same = stay.same }

-- a reference to an object refers to it after the flip
parted_refers : {n : State} {currents remaining : Places} {words moved : List ℕ} (w : ℕ) (id : Id) (at : ℕ) → meaning w ≡ Some (word.Stable at)
    → WasCopied n currents words moved id at ⊎ HasStayed remaining words moved id at → RefersTo n currents remaining moved w id
parted_refers w id at means (inl copy) = forwarded at copy.to means copy.old copy.forward copy.current
parted_refers w id at means (inr stay) = left at means stay.left

-- and is followed to where that stands
parted_word : {s n : State} {k : Collection} {places currents remaining : Places} {words moved : List ℕ} → IsFlip s n k places currents remaining words moved → (w : ℕ) (meant : Option Word) → meaning w ≡ meant
    → LeadsHere (addresses places) meant → IsRelocatedWord places (currents ++ future n moved remaining) w (followed n moved remaining w)
parted_word flip w None means leads = absurd leads
parted_word {n = n} {remaining = remaining} {moved = moved} flip w (Some word.Null) means leads = let plain = ap refers_to_stable means in inl (plain, followed_plain n moved remaining w plain)
parted_word {n = n} {remaining = remaining} {moved = moved} flip w (Some (word.Int i)) means leads = let plain = ap refers_to_stable means in inl (plain, followed_plain n moved remaining w plain)
parted_word {n = n} {remaining = remaining} {moved = moved} flip w (Some (word.Volatile i)) means leads = let plain = ap refers_to_stable means in inl (plain, followed_plain n moved remaining w plain)
parted_word {places = places} flip w (Some (word.Stable at)) means leads =
    let object = named places at flip.own leads in
    let goes = refers_followed flip.is flip.own_there w object.0 (parted_refers w object.0 at means (flip.parted.each object.0 at object.1)) in
    inr (record { id = object.0; at = at; to = goes.to; moved = record { before = object.1; after = goes.there }; was = (bits-meaning w (word.Stable at) means).1; is = goes.is })

flipped_object : {s n : State} {k : Collection} {places currents remaining : Places} {words moved : List ℕ} → IsFlip s n k places currents remaining words moved → (id : Id) (at to : ℕ)
    → HasMoved places (currents ++ future n moved remaining) id at to
    → IsRelocatedObject places (currents ++ future n moved remaining) words (completed n currents remaining moved) at to
flipped_object {s} {n} {k} {places} {currents} {remaining} {words} {moved} flip id at to place =
    let P' = currents ++ future n moved remaining in
    let V = completed n currents remaining moved in
    let f = followed n moved remaining in
    let part = parted_object flip id at (flip.parted.each id at place.before) in
    let after = completed_object flip.is id to place.after in
    let one : part.to ≡ after.at = same_Some part.to after.at (sym part.there ∙ after.put.stood) in
    let middle = subst (λ (x : ℕ). IsMade (λ w. w) words moved at x part.fields) one part.same in
    let size : after.fields ≡ part.fields = same_Some after.fields part.fields (sym after.made.was ∙ middle.is) in
    let has = address_of-Contains places id at place.before in
    record {
      fields = part.fields;
      was = middle.was;
      is = after.made.is ∙ ap Some size;
      birth = after.made.birth ∙ middle.birth;
      led = λ i below.
          let w = slice_index words (field_at at i) in
          let new : slice_index V (field_at to i) ≡ f w = after.made.fields i (omega arith) ∙ ap f (middle.fields i below) in
          subst (IsRelocatedWord places P' w) (sym new) (parted_word flip w (meaning w) refl (flip.laid.here at has part.fields i middle.was below (ap (λ o. is_gray_field o at i) flip.none)));
    }

flipped_same : {s n : State} {k : Collection} {places currents remaining : Places} {words moved : List ℕ} → IsFlip s n k places currents remaining words moved → HaveSameIds places (currents ++ future n moved remaining)
flipped_same {n = n} {currents = currents} {remaining = remaining} {moved = moved} flip id =
    flip.parted.same id
    ∙ sym (put_same moved (currents ++ remaining) n.base id)
    ∙ sym (ap (λ (ps : Places). is_some (address_of ps id)) (all_places flip.is.laid))

-- The objects of the words are relocated in the completed words after a flip, from end to end.
pub flip_relocates : {s n : State} {k : Collection} {places currents remaining : Places} {words moved : List ℕ} → IsFlip s n k places currents remaining words moved
    → IsRelocation places (currents ++ future n moved remaining) words (completed n currents remaining moved) s.base (s.base + s.used) n.base (n.base + (n.used + owed n))
flip_relocates flip = record { here = here_ends flip.laid; there = completed_ends flip.is; is = record { same = flipped_same flip; each = flipped_object flip } }
