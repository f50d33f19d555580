-- A graph stands in the completed words after a flip, where translated writes are taken back.
use Rattle.std.proofs.Common.{◌≡◌, ℕ, ◌+◌, ◌≤◌, inl, inr, List, [], ◌∷◌, ◌++◌, Option, None, Some, refl, ap, arith}
use Rattle.heap_words.specs.declared.Word.{Word}
use Rattle.heap_words.specs.declared.Word.TheVariants as word
use Rattle.heap_words.specs.Word.{meaning, refers_to_stable}
use Rattle.heap_words.proofs.WordLaws.{bits-meaning}
use Rattle.heap_spaces.specs.Collection.{Collection}
use Rattle.graph_model.specs.Graph.{Graph, root}
use Rattle.relocation.specs.Relocation.{moved_to, translated_by}
use Rattle.log_machine.specs.declared.UndoEntry.{UndoEntry}
use Rattle.log_machine.specs.Machine.{State, owed, taken_back, words_in}
use Rattle.log_machine.specs.Translation.{translated_list}
use Rattle.log_machine.proofs.StateLaws.{spaced_more}
use Rattle.graph_words.specs.Places.{Places, address_of, addresses}
use Rattle.graph_words.specs.Stands.{Stands}
use Rattle.graph_words.proofs.Area.Field.{AreFields}
use Rattle.graph_words.proofs.Seal.Places.{address_of-append_left}
use Rattle.collection_words.specs.Completed.{StandsCompleted, completed, future}
use Rattle.collection_words.specs.Flipped.{LedAlong, WereTranslated}
use Rattle.collection_words.specs.Relocated.{AreRelocatedEntries, IsRelocatedWord}
use Rattle.collection_words.proofs.Copy.Stands.{completed_names}
use Rattle.collection_words.proofs.Flip.Relocated.{IsFlip, flip_relocates}
use Rattle.collection_words.proofs.Relocated.Stands.{relocated_stands}
use Rattle.collection_words.proofs.Relocated.Writes.{relocated_taken_back}

along_word : (pairs : List (ℕ × ℕ)) (places currents rest : Places) (w : ℕ) (meant : Option Word) → meaning w ≡ meant → LedAlong pairs places currents meant
    → IsRelocatedWord places (currents ++ rest) w (translated_by pairs w meant)
along_word pairs places currents rest w None means along = inl (ap refers_to_stable means, refl)
along_word pairs places currents rest w (Some word.Null) means along = inl (ap refers_to_stable means, refl)
along_word pairs places currents rest w (Some (word.Int n)) means along = inl (ap refers_to_stable means, refl)
along_word pairs places currents rest w (Some (word.Volatile index)) means along = inl (ap refers_to_stable means, refl)
along_word pairs places currents rest w (Some (word.Stable at)) means (id, before, after) = inr (record {
  id = id;
  at = at;
  to = moved_to pairs at;
  moved = record { before = before; after = address_of-append_left currents rest id (moved_to pairs at) after };
  was = (bits-meaning w (word.Stable at) means).1;
  is = refl;
})

-- translated writes are the writes where their objects were relocated
pub translated_entries : (pairs : List (ℕ × ℕ)) (places currents rest : Places) (us : List UndoEntry) → WereTranslated pairs places currents us
    → AreRelocatedEntries places (currents ++ rest) us (translated_list pairs us)
translated_entries pairs places currents rest [] all = tt
translated_entries pairs places currents rest (u ∷ us) all =
    let object = all.0.0 in (
      record {
        id = object.0;
        object = record { before = object.1; after = address_of-append_left currents rest object.0 (moved_to pairs u.object) object.2 };
        field = refl;
        was = along_word pairs places currents rest u.was (meaning u.was) refl all.0.1;
      },
      translated_entries pairs places currents rest us all.1,
    )

-- A graph that stands in the words stands in the completed words after a flip, where translated writes are taken back.
pub flip_stands : {s n : State} {k : Collection} {places currents remaining : Places} {words moved : List ℕ} {t made : ℕ} {g : Graph} (pairs : List (ℕ × ℕ)) (us : List UndoEntry)
    → (flip : IsFlip s n k places currents remaining words moved) → words_in n.pages ≤ 2097152 → address_of currents root ≡ Some n.base → WereTranslated pairs places currents us → AreFields words (addresses places) us
    → Stands t made places g (taken_back us words) s.base s.used → StandsCompleted t made currents remaining g (translated_list pairs us) moved n
flip_stands {n = n} {places = places} {currents = currents} {remaining = remaining} {words = words} {moved = moved} pairs us flip small first translated fields stands =
    let rest = future n moved remaining in
    let moves = relocated_taken_back us (translated_list pairs us) (flip_relocates flip) (translated_entries pairs places currents rest us translated) fields in
    let room = spaced_more n (owed n) flip.is.spaced flip.is.spaced.room in
    relocated_stands (currents ++ rest) (taken_back (translated_list pairs us) (completed n currents remaining moved)) n.base (n.used + owed n) stands
    (record {
      below = omega arith;
      ends = moves.there;
      root_place = address_of-append_left currents rest root n.base first;
      names = completed_names flip.is.laid flip.own_there;
    }) moves.is
