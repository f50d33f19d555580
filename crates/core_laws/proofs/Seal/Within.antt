-- A transaction and the heap while a collection runs, as the laws of a seal there say it: what it sees, and that it can be sealed.
use Rattle.std.proofs.Common.{◌≡◌, ◌≢◌, ℕ, ◌+◌, List, [], ◌∷◌, ◌++◌, None, Some, sym, ap, ◌∙◌, subst, arith}
use Rattle.std.specs.List.{AllByRecursion, flat_map}
use Rattle.std.specs.FinMap.{entries, remove}
use Rattle.heap_spaces.specs.Collection.{Collection}
use Rattle.graph_model.specs.Transaction.{Transaction, View}
use Rattle.graph_model.specs.History.{Account}
use Rattle.graph_model.specs.Plain.{view}
use Rattle.commit_order.specs.Heard.{Heard}
use Rattle.commit_order.proofs.OrderLaws.{IsOrdered}
use Rattle.log_machine.specs.declared.UndoEntry.{UndoEntry}
use Rattle.log_machine.specs.Apart.{others_taken_back}
use Rattle.log_machine.specs.Entries.{EachKeyed}
use Rattle.log_machine.specs.Machine.{Loser, State, owed, taken_back, undo_of}
use Rattle.log_machine.proofs.Fields.{written}
use Rattle.log_machine.proofs.ListLaws.{AllByRecursion-append, AllByRecursion-map}
use Rattle.log_machine.proofs.MapLaws.{each_entry, each_other}
use Rattle.log_machine.proofs.StateLaws.{each_at}
use Rattle.graph_words.specs.Places.{Places, address_of}
use Rattle.graph_words.specs.Promotion.{promoted_need}
use Rattle.graph_words.specs.Stands.{Stands}
use Rattle.graph_words.proofs.Seal.Places.{address_of-append_left, address_of-append_right}
use Rattle.collection_words.specs.Completed.{completed, future}
use Rattle.collection_words.specs.LaidOut.{IsUnderway}
use Rattle.collection_words.specs.Writes.{AreBacked, IsHereWrite}
use Rattle.collection_words.proofs.Laid.Sources.{IsCollecting}
use Rattle.collection_words.proofs.Laid.TakenBack.{each_taken_back-list}
use Rattle.seal_laws.specs.Seal.{AreBeside, AreWrittenWithin, CanSealWithin, IsSeenWithin, Seal}
use Rattle.seal_laws.specs.Seal as law
use Rattle.seal_laws.proofs.Promoting.{none_front}
use Rattle.heap_model.specs.Core.{Core, all_words}
use Rattle.core_laws.proofs.Sessions.Apart.{own_away}
use Rattle.core_laws.proofs.Sessions.OtherWrites.{IsAway}
use Rattle.core_laws.proofs.Sessions.Whole.{none_to_come}
use Rattle.core_laws.proofs.Seal.Told as seal
use Rattle.core_laws.proofs.Step.Goes.{numbered_as, writing_of}
use Rattle.core_laws.specs.Valid.{Agrees}

-- What the others have written.

-- the writes of all other transactions that may be taken back, as one list
abbrev pub listed : State → ℕ → List UndoEntry
listed s t = flat_map (λ e. e.1) (entries (remove s.undo t))

-- they are taken back one after another
pub listed_is : (s : State) (t : ℕ) (words : List ℕ) → taken_back (listed s t) words ≡ others_taken_back s t words
listed_is s t words = sym (each_taken_back-list (entries (remove s.undo t)) words)

all_flat : (P : UndoEntry → Type 0) (es : List Loser) → AllByRecursion (λ e. AllByRecursion P e.1) es → AllByRecursion P (flat_map (λ e. e.1) es)
all_flat P [] all = tt
all_flat P (e ∷ es) all = AllByRecursion-append P e.1 (flat_map (λ e. e.1) es) all.0 (all_flat P es all.1)

-- what holds of each write of another transaction holds of each of the list
pub listed_all : (P : UndoEntry → Type 0) (s : State) (t : ℕ) → EachKeyed (λ q vs. q ≢ t → AllByRecursion P vs) s.undo → AllByRecursion P (listed s t)
listed_all P s t each =
    let All : ℕ → List UndoEntry → Type 0 = λ q vs. AllByRecursion P vs in
    all_flat P (entries (remove s.undo t)) (each_entry All (remove s.undo t) (each_other All s.undo t each))

-- a transaction that sees this, and the heap
abbrev pub within : Core → State → Collection → View → ℕ → Seal
within c state k v t = record {
  state = state;
  collection = k;
  places = c.places;
  remaining = c.remaining;
  words = all_words c;
  g = v.graph;
  t = t;
  made = v.made;
  undo = undo_of state t;
  others = listed state t;
}

module _ (a : Account) (c : Core) (h : Agrees a c) (k : Collection) (run : IsCollecting h.behind k c.places c.remaining (all_words c)) where
  abbrev to_come : Places
  to_come = future h.behind (all_words c) c.remaining

  underway : IsUnderway h.behind k c.places c.remaining (all_words c)
  underway = record { run = run.run; spaced = run.spaced; long = run.long; small = h.told.heap.small; laid = run.laid }

  module _ (s : ℕ) (t : Transaction) (e : a.active s ≡ Some t) where
    abbrev seen : View
    seen = view c.g0 a t

    -- the fields of current objects that lead to objects with no place are among those that it wrote
    written_within : AreWrittenWithin c.places c.remaining seen.graph (undo_of h.behind t.number)
    written_within id target at i there got none =
        let front = none_front c.places c.remaining target none in
        let left : address_of c.remaining target ≡ None = sym (address_of-append_right c.places c.remaining target front) ∙ none in
        let whole : address_of (c.places ++ to_come) target ≡ None = address_of-append_right c.places to_come target front ∙ none_to_come h.behind (all_words c) c.remaining target left in
        (writing_of a c s t e h).written id target at i (address_of-append_left c.places to_come id at there) got whole

    -- What an active transaction sees.
    pub seen_within : IsSeenWithin (within c h.behind k seen t.number)
    seen_within =
        let w = writing_of a c s t e h in
        record {
          underway = underway;
          stands = subst (λ ws. Stands t.number seen.made (c.places ++ to_come) seen.graph ws h.behind.base (h.behind.used + owed h.behind))
              (sym (listed_is h.behind t.number (completed h.behind c.places c.remaining (all_words c)))) w.stands;
          has = w.made;
          none_left = w.apart;
          written = written_within;
          of_fields = w.fields;
          backed = each_at (λ q us. AreBacked c.places (all_words c) us) h.behind.undo t.number tt h.told.backed;
          others_backed = listed_all (λ u. IsHereWrite c.places (all_words c) u.object u.field u.was) h.behind t.number (λ q vs some other. h.told.backed q vs some);
        }

    module _ {numbers : List ℕ} {heard : Heard} (o : IsOrdered c.g0 numbers a heard) where
      -- the transaction that is sealed
      abbrev it : Seal
      it = within c h.behind k seen t.number

      -- the others have written other fields
      beside : AreBeside it.undo it.others
      beside =
          AllByRecursion-map (λ u. IsAway h.behind t.number (written u)) (λ u. AllByRecursion (λ v. written u ≢ written v) it.others) it.undo
          (λ u away. listed_all (λ v. written u ≢ written v) h.behind t.number away) (own_away a c h o s t e)

      -- It can be sealed where it has space.
      pub can : seal.HasSpace a c h o s t e → CanSealWithin it
      can space =
          let same : law.asked it ≡ seal.asked a c h o s t e = ap (λ ws. promoted_need (law.area it) ws it.undo) (listed_is h.behind t.number (all_words c)) in
          record {
            sees = seen_within;
            beside = beside;
            number = numbered_as a c s t e h;
            room = omega (arith, same, seal.fits a c h o s t e space, h.told.heap.spaced.room);
          }
