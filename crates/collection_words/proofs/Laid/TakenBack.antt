-- Writes that are taken back: it is the same to complete the words before or after.
use Rattle.std.proofs.Common.{◌≡◌, ℕ, ◌+◌, List, [], ◌∷◌, refl, ap, ◌∙◌, ◌++◌, flat_map, sym}
use Rattle.heap_spaces.specs.Collection.{Collection}
use Rattle.log_machine.proofs.ListLaws.{AllByRecursion-map}
use Rattle.log_machine.specs.declared.UndoEntry.{UndoEntry}
use Rattle.log_machine.specs.Machine.{Loser, State, each_taken_back, taken_back, with_word}
use Rattle.graph_words.specs.Places.{Places, addresses}
use Rattle.graph_words.proofs.Area.Field.{field_with_word}
use Rattle.collection_words.specs.Completed.{completed, future}
use Rattle.collection_words.specs.Writes.{AreBacked, IsHereWrite}
use Rattle.collection_words.proofs.Laid.Sources.{IsCollecting, here_ends}
use Rattle.collection_words.proofs.Laid.Write.{as_field, completed_write, has_left, of_field, write_laid, write_taken}
use Rattle.collection_words.proofs.Moves.Ends.{places_taken_same}

-- What words are when writes are taken back.
pub record IsTakenBack (s : State) (k : Collection) (places remaining : Places) (words : List ℕ) (us : List UndoEntry) : Type 0 where
  pub is : IsCollecting s k places remaining (taken_back us words)
  pub same : completed s places remaining (taken_back us words) ≡ taken_back us (completed s places remaining words)
  pub future : future s (taken_back us words) remaining ≡ future s words remaining

pub backed_left : {s : State} {k : Collection} {places remaining : Places} {words : List ℕ} → IsCollecting s k places remaining words → (u : UndoEntry) (us : List UndoEntry) → AreBacked places words (u ∷ us)
    → AreBacked places (with_word words u.object u.field u.was) us
backed_left {s} {places = places} {words = words} is u us all =
    AllByRecursion-map (λ v. IsHereWrite places words v.object v.field v.was) (λ v. IsHereWrite places (with_word words u.object u.field u.was) v.object v.field v.was) us
    (λ v write. record {
      is = of_field (field_with_word words s.base (addresses places) (s.base + s.used) u.object u.field u.was v.object v.field (here_ends is.laid) (as_field all.0.is) (as_field write.is));
      leads = write.leads;
    }) all.1

-- Words stay laid out when writes are taken back, and are completed to the completed words of which they are taken back.
pub completed_taken_back : (us : List UndoEntry) {s : State} {k : Collection} {places remaining : Places} {words : List ℕ} → IsCollecting s k places remaining words → AreBacked places words us
    → IsTakenBack s k places remaining words us
completed_taken_back [] is all = record { is = is; same = refl; future = refl }
completed_taken_back (u ∷ us) {s} {k} {places} {remaining} {words} is all =
    let others = with_word words u.object u.field u.was in
    let rest = completed_taken_back us (write_laid is all.0) (backed_left is u us all) in
    record {
      is = rest.is;
      same = rest.same ∙ ap (taken_back us) (completed_write is all.0);
      future = rest.future ∙ places_taken_same words others remaining (s.base + s.used) (λ at has. write_taken is all.0 at (has_left places remaining at has));
    }

-- Several transactions.

-- writes after writes are taken back as one list
pub taken_back-append : (us vs : List UndoEntry) (words : List ℕ) → taken_back (us ++ vs) words ≡ taken_back vs (taken_back us words)
taken_back-append [] vs words = refl
taken_back-append (u ∷ us) vs words = taken_back-append us vs (with_word words u.object u.field u.was)

-- so are those of several transactions
pub each_taken_back-list : (es : List Loser) (words : List ℕ) → each_taken_back es words ≡ taken_back (flat_map (λ e. e.1) es) words
each_taken_back-list [] words = refl
each_taken_back-list (e ∷ es) words = each_taken_back-list es (taken_back e.1 words) ∙ sym (taken_back-append e.1 (flat_map (λ e. e.1) es) words)
