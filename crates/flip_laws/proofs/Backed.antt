-- Undo entries after a flip from roots are of fields of the copies, and put back words that lead to such.
use Rattle.std.proofs.Common.{◌≡◌, ℕ, ◌<◌, inl, inr, List, [], ◌∷◌, Option, None, Some, refl, sym, ◌∙◌, subst, arith}
use Rattle.std.specs.Prelude.{Contains}
use Rattle.std.specs.FinSet.{contains}
use Rattle.std.proofs.lemmas.Option.{same_Some}
use Rattle.heap_words.specs.declared.Word.{Word}
use Rattle.heap_words.specs.declared.Word.TheVariants as word
use Rattle.heap_words.specs.Word.{meaning}
use Rattle.heap_words.proofs.WordLaws.{meaning-bits}
use Rattle.relocation.specs.Relocation.{moved_to, translated_by}
use Rattle.log_machine.specs.declared.UndoEntry.{UndoEntry}
use Rattle.log_machine.specs.Collecting.{other_base, pairs_of}
use Rattle.log_machine.specs.Machine.{State}
use Rattle.object_layout.specs.Layout.{object_at}
use Rattle.graph_words.specs.Places.{Places, addresses}
use Rattle.graph_words.proofs.Places.Addresses.{address_of-Contains}
use Rattle.flip_copy.specs.Copied.{with_base}
use Rattle.collection_words.specs.Completed.{moves_from}
use Rattle.collection_words.specs.LaidOut.{LeadsHere}
use Rattle.collection_words.specs.Placed.{HaveOwnNames}
use Rattle.collection_words.specs.Writes.{AreBacked}
use Rattle.collection_words.proofs.Flip.Parted.{chosen_made}
use Rattle.collection_words.proofs.Laid.Within.{start_within}
use Rattle.collection_words.proofs.Moves.Sources.{put_source}
use Rattle.flip_laws.specs.Flip.{AreEntriesOf, CanFlip, collection_begun, copies_of, copy_places, entries_behind, root_places, state_behind, words_behind}
use Rattle.flip_laws.proofs.Heap.{flip_underway, went_along}
use Rattle.flip_laws.proofs.Parts.{passing_place}
use Rattle.flip_laws.proofs.Roots.{entry_rooted, flip_flipping, root_moved, words_are}

-- a copy stands where a root goes
copy_start : {s : State} {places : Places} {words roots : List ℕ} → CanFlip s places words roots → HaveOwnNames places → (at : ℕ) → Contains (with_base s.base roots) at
    → Contains (addresses (copy_places s words roots places)) (moved_to (pairs_of (copies_of s words roots)) at)
copy_start {s} {places} {words} {roots} can own at has =
    let went = went_along can own at has in
    address_of-Contains (copy_places s words roots places) went.0 (moved_to (pairs_of (copies_of s words roots)) at) went.2

-- it has as many fields as the object
copy_object : {s : State} {places : Places} {words roots : List ℕ} → CanFlip s places words roots → HaveOwnNames places → (at n : ℕ) → Contains (with_base s.base roots) at → object_at words at ≡ Some n
    → object_at (words_behind s words roots) (moved_to (pairs_of (copies_of s words roots)) at) ≡ Some n
copy_object {s} {places} {words} {roots} can own at n has object =
    let to = other_base s in
    let chosen = root_places s words roots places in
    let there = moved_to (pairs_of (copies_of s words roots)) at in
    let went = went_along can own at has in
    let stood = passing_place (λ a. contains (collection_begun s words roots).moved a) places went.0 at went.1 (root_moved can at has) in
    let put = put_source words chosen to went.0 there went.2 in
    let same : put.0 ≡ at = same_Some put.0 at (sym put.1.stood ∙ stood) in
    let move = subst (λ (x : ℕ). Contains (moves_from words (addresses chosen) to) (x, there)) same put.1.move in
    subst (λ (ws : List ℕ). object_at ws there ≡ Some n) (words_are can) (chosen_made (flip_flipping can) at there n object move).is

-- a reference can lead to it
copy_small : {s : State} {places : Places} {words roots : List ℕ} → CanFlip s places words roots → (at : ℕ) → Contains (addresses (copy_places s words roots places)) at → at < 2097152
copy_small {s} {places} {words} {roots} can at has =
    let n = state_behind s words roots in
    let is = flip_underway can in
    let within = start_within is.laid at has in
    let below = within.below in
    let room = is.spaced.room in
    let small = is.small in
    elim is.spaced.first [ inl low ↦ omega arith | inr high ↦ omega arith ]

leads_behind : {s : State} {places : Places} {words roots : List ℕ} → CanFlip s places words roots → HaveOwnNames places → (w : ℕ) (meant : Option Word) → meaning w ≡ meant → LeadsHere (addresses places) meant
    → ((at : ℕ) → meant ≡ Some (word.Stable at) → Contains (with_base s.base roots) at)
    → LeadsHere (addresses (copy_places s words roots places)) (meaning (translated_by (pairs_of (copies_of s words roots)) w meant))
leads_behind can own w None means leads each = absurd leads
leads_behind {s} {places} {words} {roots} can own w (Some word.Null) means leads each = subst (LeadsHere (addresses (copy_places s words roots places))) (sym means) tt
leads_behind {s} {places} {words} {roots} can own w (Some (word.Int n)) means leads each = subst (LeadsHere (addresses (copy_places s words roots places))) (sym means) tt
leads_behind {s} {places} {words} {roots} can own w (Some (word.Volatile index)) means leads each = subst (LeadsHere (addresses (copy_places s words roots places))) (sym means) tt
leads_behind {s} {places} {words} {roots} can own w (Some (word.Stable at)) means leads each =
    let there = moved_to (pairs_of (copies_of s words roots)) at in
    let start = copy_start can own at (each at refl) in
    subst (LeadsHere (addresses (copy_places s words roots places))) (sym (meaning-bits (word.Stable there) (copy_small can there start))) start

-- Translated entries are of fields of the copies, and put back words that lead to copies.
pub flip_backed : {s : State} {places : Places} {words roots : List ℕ} → CanFlip s places words roots → HaveOwnNames places → (us : List UndoEntry) → AreEntriesOf s us → AreBacked places words us
    → AreBacked (copy_places s words roots places) (words_behind s words roots) (entries_behind s words roots us)
flip_backed can own [] are backed = tt
flip_backed can own (u ∷ us) are backed =
    let rooted = entry_rooted can u are.0 in
    let field = backed.0.is in (
      record {
        is = record {
          start = copy_start can own u.object rooted.object;
          fields = field.fields;
          stands = copy_object can own u.object field.fields rooted.object field.stands;
          within = field.within;
        };
        leads = leads_behind can own u.was (meaning u.was) refl backed.0.leads rooted.was;
      },
      flip_backed can own us are.1 backed.1,
    )
