-- Writes into fields of current objects, of words that lead to such, whether a collection is under way or not.
use Rattle.std.proofs.Common.{◌≡◌, ℕ, ◌+◌, inl, inr, List, [], ◌∷◌, ◌++◌, length, Option, None, Some, refl, sym, ap, ◌∙◌, subst, arith, length-set}
use Rattle.std.specs.Prelude.{Contains, MatchOption}
use Rattle.heap_words.specs.Word.{meaning}
use Rattle.heap_spaces.specs.Collection.{Collection}
use Rattle.log_machine.proofs.ListLaws.{AllByRecursion-map}
use Rattle.log_machine.specs.declared.UndoEntry.{UndoEntry}
use Rattle.log_machine.specs.Machine.{Loser, State, each_taken_back, field_at, taken_back, turned, with_word}
use Rattle.graph_words.specs.Places.{Places, addresses}
use Rattle.graph_words.proofs.Area.Field.{field_with_word}
use Rattle.collection_words.specs.Completed.{completed, completed_places, future}
use Rattle.collection_words.specs.LaidOut.{AreHeapWords, IsFromSpace, IsLaidOut, LeadsHere}
use Rattle.collection_words.specs.Writes.{AreBacked, IsHereWrite}
use Rattle.collection_words.proofs.Heap.Cases.{HasNone, collecting_heap, heap_cases}
use Rattle.collection_words.proofs.Laid.Completed.{completed_none}
use Rattle.collection_words.proofs.Laid.Sources.{here_ends}
use Rattle.collection_words.proofs.Laid.Write.{as_field, completed_write, has_left, of_field, write_fields, write_filled, write_laid, write_length, write_taken}
use Rattle.collection_words.proofs.Moves.Ends.{places_taken_same}

-- Words that are a heap's, and are completed to these words, with all objects where these stand.
pub record AreCompletedTo (s : State) (places remaining : Places) (words target : List ℕ) (all : Places) : Type 0 where
  pub heap : AreHeapWords s places remaining words
  pub same : completed s places remaining words ≡ target
  pub there : completed_places s places remaining words ≡ all

-- One write.

none_write : {s : State} {places remaining : Places} {words : List ℕ} {object field word : ℕ} → AreHeapWords s places remaining words → HasNone s remaining → IsHereWrite places words object field word
    → AreHeapWords s places remaining (with_word words object field word)
none_write {s} {places} {remaining} {words} {object} {field} {word} heap none write = record {
  spaced = heap.spaced;
  long = length-set words (field_at object field) word ∙ heap.long;
  small = heap.small;
  laid = record {
    filled = write_filled heap.laid write;
    here = λ at has n i there below black.
        let was = write_length heap.laid write at n has there in
        write_fields (λ w. LeadsHere (addresses places) (meaning w)) heap.laid write at n i was below (heap.laid.here at has n i was below black) write.leads;
    from = subst (λ (o : Option Collection). MatchOption o (remaining ≡ []) (λ k. IsFromSpace s k places remaining (with_word words object field word))) (sym none.none) none.left;
  };
}

-- it is the same write of the completed words
pub heap_write : {s : State} {places remaining : Places} {words : List ℕ} {object field word : ℕ} → AreHeapWords s places remaining words → IsHereWrite places words object field word
    → AreCompletedTo s places remaining (with_word words object field word) (with_word (completed s places remaining words) object field word) (completed_places s places remaining words)
heap_write {s} {places} {remaining} {words} {object} {field} {word} heap write =
    let others = with_word words object field word in
    elim (heap_cases heap) [
      | inl none ↦ record {
        heap = none_write heap none write;
        same = completed_none s places remaining others none.none ∙ ap (λ (ws : List ℕ). with_word ws object field word) (sym (completed_none s places remaining words none.none));
        there = ap (λ (ps : Places). places ++ future s others ps) none.left ∙ sym (ap (λ (ps : Places). places ++ future s words ps) none.left);
      }
      | inr runs ↦ record {
        heap = collecting_heap heap.small (write_laid runs.1 write);
        same = completed_write runs.1 write;
        there = ap (λ (ps : Places). places ++ ps) (places_taken_same words others remaining (s.base + s.used) (λ at has. write_taken runs.1 write at (has_left places remaining at has)));
      }
    ]

-- Writes that may be taken back.

-- they put back such words after a write too
pub backed_write : {s : State} {places remaining : Places} {words : List ℕ} {object field word : ℕ} → AreHeapWords s places remaining words → IsHereWrite places words object field word
    → (us : List UndoEntry) → AreBacked places words us → AreBacked places (with_word words object field word) us
backed_write {s} {places} {words = words} {object = object} {field = field} {word = word} heap write us all =
    AllByRecursion-map (λ v. IsHereWrite places words v.object v.field v.was) (λ v. IsHereWrite places (with_word words object field word) v.object v.field v.was) us
    (λ v is. record {
      is = of_field (field_with_word words s.base (addresses places) (s.base + s.used) object field word v.object v.field (here_ends heap.laid) (as_field write.is) (as_field is.is));
      leads = is.leads;
    }) all

-- it is the same to complete the words before or after they are taken back
pub heap_taken_back : (us : List UndoEntry) {s : State} {places remaining : Places} {words : List ℕ} → AreHeapWords s places remaining words → AreBacked places words us
    → AreCompletedTo s places remaining (taken_back us words) (taken_back us (completed s places remaining words)) (completed_places s places remaining words)
heap_taken_back [] heap all = record { heap = heap; same = refl; there = refl }
heap_taken_back (u ∷ us) {s} {places} {remaining} {words} heap all =
    let first = heap_write heap all.0 in
    let rest = heap_taken_back us first.heap (backed_write heap all.0 us all.1) in
    record { heap = rest.heap; same = rest.same ∙ ap (taken_back us) first.same; there = rest.there ∙ first.there }

-- A state with other undo lists.

from_turned : (s : State) (t : ℕ) (undo : _) (more : ℕ) (places remaining : Places) (words : List ℕ) (o : Option Collection) → MatchOption o (remaining ≡ []) (λ k. IsFromSpace s k places remaining words)
    → MatchOption o (remaining ≡ []) (λ k. IsFromSpace (turned s t undo more) k places remaining words)
from_turned s t undo more places remaining words None left = left
from_turned s t undo more places remaining words (Some k) from = record {
  starts = from.starts;
  chain = from.chain;
  forwarded = from.forwarded;
  left = from.left;
  sum = from.sum;
  grays = from.grays;
  back = from.back;
  inside = from.inside;
}

-- the words are a heap's where other writes may be taken back
pub heap_turned : {s : State} {places remaining : Places} {words : List ℕ} (t : ℕ) (undo : _) (more : ℕ) → AreHeapWords s places remaining words → AreHeapWords (turned s t undo more) places remaining words
heap_turned {s} {places} {remaining} {words} t undo more heap = record {
  spaced = record { first = heap.spaced.first; room = heap.spaced.room; within = heap.spaced.within };
  long = heap.long;
  small = heap.small;
  laid = record { filled = heap.laid.filled; here = heap.laid.here; from = from_turned s t undo more places remaining words s.collection heap.laid.from };
}

-- other writes put back such words after these are taken back
pub backed_taken_back : (us : List UndoEntry) {s : State} {places remaining : Places} {words : List ℕ} → AreHeapWords s places remaining words → AreBacked places words us
    → (vs : List UndoEntry) → AreBacked places words vs → AreBacked places (taken_back us words) vs
backed_taken_back [] heap all vs others = others
backed_taken_back (u ∷ us) heap all vs others =
    backed_taken_back us (heap_write heap all.0).heap (backed_write heap all.0 us all.1) vs (backed_write heap all.0 vs others)
