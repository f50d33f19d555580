-- What one transaction writes, or takes back, leaves what another one sees, and where that stands.
use Rattle.std.proofs.Common.{◌≡◌, ◌≢◌, ℕ, ◌+◌, List, [], ◌∷◌, get_or, refl, sym, ap, ◌∙◌, subst}
use Rattle.graph_model.specs.Transaction.{View}
use Rattle.graph_model.specs.Locking.{Lock}
use Rattle.log_machine.specs.declared.UndoEntry.{UndoEntry}
use Rattle.log_machine.specs.Machine.{State, field_at, owed, with_word, with_entries, undo_of, turned, taken_back}
use Rattle.log_machine.proofs.Fields.{IsApart}
use Rattle.log_machine.specs.Apart.{others_taken_back}
use Rattle.log_machine.specs.Sound.{AreLosers}
use Rattle.graph_words.specs.Places.{Places}
use Rattle.graph_words.specs.Stands.{Stands, AreWritten, AreOfFields}
use Rattle.collection_words.specs.Completed.{completed, completed_places}
use Rattle.collection_words.specs.LaidOut.{AreHeapWords}
use Rattle.collection_words.specs.Writes.{AreBacked, IsHereWrite}
use Rattle.collection_words.proofs.Heap.Write.{heap_taken_back, heap_write}
use Rattle.core_laws.specs.Valid.{AreLockedWrites, IsWriting}
use Rattle.core_laws.proofs.Sessions.OtherWrites.{undo_other, others_write, others_abort}

-- A state in which a transaction's own writes that may be taken back are the same, and what it sees too.
pub record IsSameFor (places remaining : Places) (u : ℕ) (words more : List ℕ) (s r : State) : Type 0 where
  pub base : r.base ≡ s.base
  pub used : r.used + owed r ≡ s.used + owed s
  pub own : undo_of r u ≡ undo_of s u
  pub there : completed_places r places remaining more ≡ completed_places s places remaining words
  pub seen : others_taken_back r u (completed r places remaining more) ≡ others_taken_back s u (completed s places remaining words)

-- there the transaction continues
pub stays_same : {places remaining : Places} {v : View} {u : ℕ} {locks : List Lock} {words more : List ℕ} {s r : State} → IsWriting places remaining v u locks words s → IsSameFor places remaining u words more s r
    → IsWriting places remaining v u locks more r
stays_same {places} {remaining} {v} {u} {locks} {words} {more} {s} {r} w same = record {
  stands = subst (λ (n : ℕ). Stands u v.made (completed_places r places remaining more) v.graph (others_taken_back r u (completed r places remaining more)) r.base n) (sym same.used)
      (subst (λ (n : ℕ). Stands u v.made (completed_places r places remaining more) v.graph (others_taken_back r u (completed r places remaining more)) n (s.used + owed s)) (sym same.base)
      (subst (λ (l : List ℕ). Stands u v.made (completed_places r places remaining more) v.graph l s.base (s.used + owed s)) (sym same.seen)
      (subst (λ (ps : Places). Stands u v.made ps v.graph (others_taken_back s u (completed s places remaining words)) s.base (s.used + owed s)) (sym same.there) w.stands)));
  made = w.made;
  apart = w.apart;
  written = subst (λ (ps : Places). AreWritten ps v.graph (undo_of r u)) (sym same.there)
      (subst (λ (us : List UndoEntry). AreWritten (completed_places s places remaining words) v.graph us) (sym same.own) w.written);
  fields = subst (λ (us : List UndoEntry). AreOfFields places v.graph us) (sym same.own) w.fields;
  locked = subst (λ (us : List UndoEntry). AreLockedWrites places locks us) (sym same.own) w.locked;
  unlocked = w.unlocked;
  handles = w.handles;
}

-- another transaction's write leaves it
pub stays_write : {places remaining : Places} {v : View} {u : ℕ} {locks : List Lock} {words : List ℕ} {state : State} → IsWriting places remaining v u locks words state
    → AreHeapWords state places remaining words → (t : ℕ) → u ≢ t → (entry : UndoEntry) (word : ℕ) → IsHereWrite places words entry.object entry.field word
    → get_or (completed state places remaining words) (field_at entry.object entry.field) 0 ≡ entry.was → IsApart state t (entry ∷ undo_of state t)
    → IsWriting places remaining v u locks (with_word words entry.object entry.field word) (turned state t (with_entries state.undo t (entry ∷ undo_of state t)) 0)
stays_write {places} {remaining} {u = u} {words = words} {state = state} w heap t other entry word here stood apart =
    let left = heap_write heap here in
    let later = turned state t (with_entries state.undo t (entry ∷ undo_of state t)) 0 in
    stays_same w (record {
      base = refl;
      used = refl;
      own = undo_other state t u (entry ∷ undo_of state t) 0 (λ e. other (sym e));
      there = left.there;
      seen = ap (others_taken_back later u) left.same ∙ others_write state t u (completed state places remaining words) entry word other stood apart;
    })

-- and so does its abort
pub stays_abort : {places remaining : Places} {v : View} {u : ℕ} {locks : List Lock} {words : List ℕ} {state : State} → IsWriting places remaining v u locks words state
    → AreHeapWords state places remaining words → (t : ℕ) → u ≢ t → AreBacked places words (undo_of state t) → AreLosers state → IsApart state t (undo_of state t)
    → IsWriting places remaining v u locks (taken_back (undo_of state t) words) (turned state t (with_entries state.undo t []) 0)
stays_abort {places} {remaining} {u = u} {words = words} {state = state} w heap t other backed sound apart =
    let left = heap_taken_back (undo_of state t) heap backed in
    let later = turned state t (with_entries state.undo t []) 0 in
    stays_same w (record {
      base = refl;
      used = refl;
      own = undo_other state t u [] 0 (λ e. other (sym e));
      there = left.there;
      seen = ap (others_taken_back later u) left.same ∙ others_abort state t u (completed state places remaining words) other sound apart;
    })
