-- A transaction that begins within a collection sees the graph that stands committed.
use Rattle.std.proofs.Common.{◌≡◌, ℕ, List, ◌++◌, None, is_some, sym, ap, ◌∙◌}
use Rattle.heap_spaces.specs.Collection.{Collection}
use Rattle.graph_model.specs.Graph.{Graph}
use Rattle.log_machine.specs.Machine.{State}
use Rattle.log_machine.specs.declared.UndoEntry.{UndoEntry}
use Rattle.graph_words.specs.Places.{Places, address_of, made_by}
use Rattle.graph_words.proofs.Seal.Places.{address_of-append_left, address_of-append_right}
use Rattle.graph_words.proofs.Stands.Write.{begin_made, begin_written, committed_stands}
use Rattle.collection_words.specs.Completed.{StandsCompleted, future}
use Rattle.collection_words.specs.LaidOut.{IsUnderway}
use Rattle.collection_words.specs.Writes.{AreBacked}
use Rattle.collection_words.proofs.Laid.Sources.{all_places}
use Rattle.collection_words.proofs.Moves.Sources.{put_same}
use Rattle.seal_laws.specs.Seal.{IsSeenWithin, begun}
use Rattle.seal_laws.proofs.Promoting.{none_front, not_some}

pub begun_sees : {s : State} {k : Collection} {places remaining : Places} {words : List ℕ} {g : Graph} (t : ℕ) (us : List UndoEntry) → IsUnderway s k places remaining words → AreBacked places words us
    → StandsCompleted 0 0 places remaining g us words s → ((i : ℕ) → address_of (places ++ remaining) (made_by t i) ≡ None) → IsSeenWithin (begun s k places remaining words g t us)
begun_sees {s} {k} {places} {remaining} {words} {g} t us under backed stands apart = record {
  underway = under;
  stands = committed_stands stands t 0;
  has = begin_made places g t (λ i. none_front places remaining (made_by t i) (apart i));
  none_left = λ i. sym (address_of-append_right places remaining (made_by t i) (none_front places remaining (made_by t i) (apart i))) ∙ apart i;
  written = λ id target at i there got none.
      let all = places ++ future s words remaining in
      let same = ap (λ (ps : Places). is_some (address_of ps target)) (all_places under.laid) ∙ put_same words (places ++ remaining) s.base target in
      begin_written stands id target at i (address_of-append_left places (future s words remaining) id at there) got (not_some (address_of all target) (address_of (places ++ remaining) target) same none);
  of_fields = tt;
  backed = tt;
  others_backed = backed;
}
