-- Writes into fields of current objects, whose addresses stay, are the same where other objects are relocated.
use Rattle.std.proofs.Common.{◌≡◌, ℕ, inl, inr, List, [], ◌∷◌, ◌++◌, Option, None, Some, refl, ap}
use Rattle.heap_words.specs.declared.Word.{Word}
use Rattle.heap_words.specs.declared.Word.TheVariants as word
use Rattle.heap_words.specs.Word.{meaning, refers_to_stable}
use Rattle.heap_words.proofs.WordLaws.{bits-meaning}
use Rattle.heap_spaces.specs.Collection.{Collection}
use Rattle.graph_model.specs.declared.id.Id.{Id}
use Rattle.log_machine.specs.declared.UndoEntry.{UndoEntry}
use Rattle.log_machine.specs.Machine.{State}
use Rattle.graph_words.specs.Places.{Places, address_of, addresses}
use Rattle.graph_words.proofs.Area.Field.{AreFields}
use Rattle.graph_words.proofs.Places.Addresses.{address_of-Contains}
use Rattle.graph_words.proofs.Seal.Places.{address_of-append_left}
use Rattle.collection_words.specs.Completed.{completed, future}
use Rattle.collection_words.specs.LaidOut.{LeadsHere}
use Rattle.collection_words.specs.Relocated.{AreRelocatedEntries, IsRelocatedWord}
use Rattle.collection_words.specs.Writes.{AreBacked}
use Rattle.collection_words.specs.Placed.{HaveOwnNames}
use Rattle.collection_words.proofs.Copy.Named.{named}
use Rattle.collection_words.proofs.Laid.Completed.{move_made}
use Rattle.collection_words.proofs.Laid.Followed.{move_placed}
use Rattle.collection_words.proofs.Laid.Sources.{IsCollecting}

here_word : (places before after : Places) (w : ℕ) (meant : Option Word) → meaning w ≡ meant → HaveOwnNames places
    → ((id : Id) (at : ℕ) → address_of places id ≡ Some at → address_of before id ≡ Some at) → ((id : Id) (at : ℕ) → address_of places id ≡ Some at → address_of after id ≡ Some at)
    → LeadsHere (addresses places) meant → IsRelocatedWord before after w w
here_word places before after w None means own here there leads = absurd leads
here_word places before after w (Some word.Null) means own here there leads = inl (ap refers_to_stable means, refl)
here_word places before after w (Some (word.Int n)) means own here there leads = inl (ap refers_to_stable means, refl)
here_word places before after w (Some (word.Volatile index)) means own here there leads = inl (ap refers_to_stable means, refl)
here_word places before after w (Some (word.Stable at)) means own here there leads =
    let object = named places at own leads in
    let is = (bits-meaning w (word.Stable at) means).1 in
    inr (record { id = object.0; at = at; to = at; moved = record { before = here object.0 at object.1; after = there object.0 at object.1 }; was = is; is = is })

-- they are the same where current objects stay
pub backed_entries : (places before after : Places) (words : List ℕ) (us : List UndoEntry) → HaveOwnNames places
    → ((id : Id) (at : ℕ) → address_of places id ≡ Some at → address_of before id ≡ Some at) → ((id : Id) (at : ℕ) → address_of places id ≡ Some at → address_of after id ≡ Some at)
    → AreBacked places words us → AreRelocatedEntries before after us us
backed_entries places before after words [] own here there all = tt
backed_entries places before after words (u ∷ us) own here there all =
    let object = named places u.object own all.0.is.start in (
      record {
        id = object.0;
        object = record { before = here object.0 u.object object.1; after = there object.0 u.object object.1 };
        field = refl;
        was = here_word places before after u.was (meaning u.was) refl own here there all.0.leads;
      },
      backed_entries places before after words us own here there all.1,
    )

-- and of fields of the completed words
pub backed_fields : {s : State} {k : Collection} {places remaining : Places} {words : List ℕ} → IsCollecting s k places remaining words → HaveOwnNames places → (us : List UndoEntry) → AreBacked places words us
    → AreFields (completed s places remaining words) (addresses (places ++ future s words remaining)) us
backed_fields is own [] all = tt
backed_fields {s} {places = places} {remaining = remaining} {words = words} is own (u ∷ us) all =
    let write = all.0.is in
    let object = named places u.object own write.start in (
      record {
        start = address_of-Contains (places ++ future s words remaining) object.0 u.object (address_of-append_left places (future s words remaining) object.0 u.object object.1);
        fields = write.fields;
        stands = (move_made is u.object u.object write.fields (move_placed is.laid u.object write.start) write.stands).is;
        within = write.within;
      },
      backed_fields is own us all.1,
    )
