-- A scan of a page: objects are copied and references updated to the copies, and the core agrees with its history.
use Rattle.std.proofs.Common.{◌≡◌, ℕ, ◌+◌, true, false, Bool, cond, List, [], ◌∷◌, ◌++◌, Option, Some, None, is_some, refl, sym, ap, ◌∙◌, subst}
use Rattle.std.specs.List.{AllByRecursion}
use Rattle.std.specs.FinMap.{FinMap, entries, find, get, get-entries, remove}
use Rattle.std.specs.Ordering.{eq_by_cmp, nat_cmp}
use Rattle.std.proofs.lemmas.Option.{same_Some}
use Rattle.graph_model.specs.declared.id.Id.{Id}
use Rattle.graph_model.specs.Graph.{fields}
use Rattle.graph_model.specs.Transaction.{Transaction, View, serial}
use Rattle.graph_model.specs.History.{Account}
use Rattle.graph_model.specs.Locking.{Lock, locks_of}
use Rattle.graph_model.specs.Plain.{view}
use Rattle.heap_spaces.specs.Collection.{Collection}
use Rattle.log_records.specs.declared.Record.{Record}
use Rattle.log_records.specs.Record.{IsRecord}
use Rattle.log_machine.specs.declared.UndoEntry.{UndoEntry}
use Rattle.log_machine.specs.Machine.{Loser, State, after_all, losing, owed, spaces_of, taken_back, undo_in, undo_of}
use Rattle.log_machine.proofs.ListLaws.{AllByRecursion-behind, AllByRecursion-front}
use Rattle.graph_words.specs.Places.{Places, address_of, made_by}
use Rattle.graph_words.specs.Stands.{Stands, StandsCommitted}
use Rattle.graph_words.proofs.Places.Addresses.{some_address}
use Rattle.collection_words.specs.Completed.{StandsCompleted, completed, completed_places}
use Rattle.collection_words.specs.LaidOut.{IsUnderway}
use Rattle.collection_words.specs.Placing.{Placing, placing_of}
use Rattle.collection_words.specs.Writes.{IsHereWrite}
use Rattle.collection_words.proofs.Laid.TakenBack.{each_taken_back-list}
use Rattle.page_scanner.specs.Passing.{collecting_after_all}
use Rattle.page_scanner.specs.Scan.{scan_records}
use Rattle.scan_laws.specs.Scanned.{KeepHeap}
use Rattle.scan_laws.proofs.Scanned.{scan_keeps}
use Rattle.seen_laws.proofs.States.{backed_all, backed_others, others, sealed_stands, viewed_stands, writes_of_all}
use Rattle.heap_model.specs.Core.{Core, all_words, moved}
use Rattle.heap_model.proofs.Step.Moved.{moved_is}
use Rattle.core_laws.proofs.Collecting.Carried.{AreCarried, IsCarried, KeepsCurrent}
use Rattle.core_laws.proofs.Collecting.Roots.{handles_stay, locks_stay, values_stay}
use Rattle.core_laws.proofs.Collecting.Told.{IsLeft, IsSeen, carried_agrees}
use Rattle.core_laws.proofs.Step.Goes.{words_with}
use Rattle.core_laws.proofs.Step.Granted.{HasRoom}
use Rattle.core_laws.specs.Valid.{Agrees, IsWriter, IsWriting}

-- Entries.

found_all : (P : UndoEntry → Type 0) (b : Bool) (e : Loser) (q : ℕ) (us : List UndoEntry) (es : List Loser) → AllByRecursion P e.1 → (find nat_cmp q es ≡ Some us → AllByRecursion P us)
    → cond b (Some e.1) (find nat_cmp q es) ≡ Some us → AllByRecursion P us
found_all P true e q us es here later is = subst (AllByRecursion P) (same_Some e.1 us is) here
found_all P false e q us es here later is = later is

-- what holds of the writes of all transactions holds of those of each one
writes_each : (P : UndoEntry → Type 0) (es : List Loser) (q : ℕ) (us : List UndoEntry) → AllByRecursion P (writes_of_all es) → find nat_cmp q es ≡ Some us → AllByRecursion P us
writes_each P [] q us all is = absurd (cc is)
writes_each P (e ∷ es) q us all is =
    found_all P (eq_by_cmp nat_cmp q e.0) e q us es (AllByRecursion-front P e.1 (writes_of_all es) all) (writes_each P es q us (AllByRecursion-behind P e.1 (writes_of_all es) all)) is

-- where objects stay where they are, writes go along as they are
carried_still : (places currents : Places) → ((id : Id) (at : ℕ) → address_of places id ≡ Some at → address_of currents id ≡ Some at) → (us : List UndoEntry) → AreCarried places currents us us
carried_still places currents kept [] = tt
carried_still places currents kept (u ∷ us) = (record { field = refl; object = λ id there. kept id u.object there }, carried_still places currents kept us)

-- and transactions keep what they hold and refer to
pub keeps_still : (places currents : Places) → ((id : Id) (at : ℕ) → address_of places id ≡ Some at → address_of currents id ≡ Some at) → (v : View) (t : ℕ) (locks : List Lock) → KeepsCurrent places currents v t locks
keeps_still places currents kept v t locks =
    let stays : (id : Id) → is_some (address_of places id) ≡ true → is_some (address_of currents id) ≡ true = λ id there. let was = some_address (address_of places id) there in ap is_some (kept id was.0 was.1) in
    record {
      made = λ k low high. values_stay places currents (fields v.graph (made_by t k)) (λ id _. stays id);
      held = handles_stay places currents v.registers (λ id _. stays id);
      locked = locks_stay places currents locks (λ id _. stays id);
    }

-- The same writes of each transaction may be taken back.
pub same_carried : (s n : State) (places currents : Places) → n.undo ≡ s.undo → ((id : Id) (at : ℕ) → address_of places id ≡ Some at → address_of currents id ≡ Some at)
    → (t : ℕ) → AreCarried places currents (undo_of s t) (undo_of n t)
same_carried s n places currents same kept t =
    subst (λ (us : List UndoEntry). AreCarried places currents (undo_of s t) us) (ap (λ (m : FinMap nat_cmp (List UndoEntry)). undo_in m t) (sym same)) (carried_still places currents kept (undo_of s t))

module _ (a : Account) (c : Core) (h : Agrees a c) (k : Collection) (run : h.behind.collection ≡ Some k) (page : ℕ) (records : List Record) (planned : scan_records (spaces_of h.behind) k (all_words c) page ≡ Some records) where
  abbrev s : State
  s = h.behind

  is : IsUnderway s k c.places c.remaining (all_words c)
  is = record { run = run; spaced = h.told.heap.spaced; long = h.told.heap.long; small = h.told.heap.small; laid = h.told.heap.laid }

  abbrev before : Placing
  before = placing_of c.places c.remaining

  -- what it leaves of the committed graph
  abbrev all : List UndoEntry
  all = writes_of_all (losing s)

  pub keep : KeepHeap s c.places c.remaining (all_words c) page records 0 0 (serial c.g0 a.sealed) all
  keep = scan_keeps s k c.places c.remaining (all_words c) (record { t = 0; made = 0; g = serial c.g0 a.sealed; us = all; before = before }) page records is
      (backed_all s c.places (all_words c) h.told.backed) (sealed_stands s c.places c.remaining (all_words c) h.told.stands) refl planned

  abbrev behind : List ℕ
  behind = words_with c records

  pub carried : IsCarried s keep.next c.places c.remaining keep.currents keep.rest
  carried = record {
    fewer = keep.copied.fewer;
    keys = λ q vs there. (vs, ap (λ (m : FinMap nat_cmp (List UndoEntry)). get m q) (sym keep.untouched.undo) ∙ there);
    entries = same_carried s keep.next c.places keep.currents keep.untouched.undo keep.copied.kept;
    next = keep.untouched.next;
    commits = keep.untouched.commits;
  }

  pub left : IsLeft s keep.next c.born c.places c.remaining keep.currents keep.rest (serial c.g0 a.sealed) (all_words c) behind
  left = record {
    heap = record { spaced = keep.underway.spaced; long = keep.underway.long; small = keep.underway.small; laid = keep.underway.laid };
    backed = λ q us there. writes_each (λ (u : UndoEntry). IsHereWrite keep.currents behind u.object u.field u.was) (entries s.undo) q us keep.backed
        (sym (get-entries s.undo q) ∙ ap (λ (m : FinMap nat_cmp (List UndoEntry)). get m q) (sym keep.untouched.undo) ∙ there);
    births = λ by_birth tells. keep.births tells;
    stands = subst (λ (ws : List ℕ). StandsCommitted (completed_places keep.next keep.currents keep.rest behind) (serial c.g0 a.sealed) ws keep.next.base (keep.next.used + owed keep.next))
        (sym (each_taken_back-list (losing keep.next) (completed keep.next keep.currents keep.rest behind)
        ∙ ap (λ (m : FinMap nat_cmp (List UndoEntry)). taken_back (writes_of_all (entries m)) (completed keep.next keep.currents keep.rest behind)) keep.untouched.undo)) keep.stands;
  }

  -- what a transaction sees
  seen_of : (t : Transaction) → IsWriting c.places c.remaining (view c.g0 a t) t.number (locks_of (serial c.g0 a.sealed) t) (all_words c) s → IsSeen keep.next keep.currents keep.rest behind c.g0 a c.places (Some t)
  seen_of t w =
      let v = view c.g0 a t in
      let us = writes_of_all (others s t.number) in
      let own : KeepHeap s c.places c.remaining (all_words c) page records t.number v.made v.graph us = scan_keeps s k c.places c.remaining (all_words c)
      (record { t = t.number; made = v.made; g = v.graph; us = us; before = before }) page records is
      (backed_others s t.number c.places (all_words c) h.told.backed) (viewed_stands s t.number v.made c.places c.remaining (all_words c) w.stands) refl planned in
      let next : own.next ≡ keep.next = same_Some own.next keep.next (sym own.passes ∙ keep.passes) in
      let there = sym own.placed ∙ keep.placed in
      let P : State → Placing → Type 0 = λ n p. StandsCompleted t.number v.made p.places p.remaining v.graph us behind n in
      let stands = subst (λ (n : State). P n (placing_of keep.currents keep.rest)) next (subst (P own.next) there own.stands) in (
        keeps_still c.places keep.currents keep.copied.kept v t.number (locks_of (serial c.g0 a.sealed) t),
        subst (λ (ws : List ℕ). Stands t.number v.made (completed_places keep.next keep.currents keep.rest behind) v.graph ws keep.next.base (keep.next.used + owed keep.next))
            (sym (each_taken_back-list (entries (remove keep.next.undo t.number)) (completed keep.next keep.currents keep.rest behind)
            ∙ ap (λ (m : FinMap nat_cmp (List UndoEntry)). taken_back (writes_of_all (entries (remove m t.number))) (completed keep.next keep.currents keep.rest behind)) keep.untouched.undo)) stands,
      )

  seen_by : (o : Option Transaction) → IsWriter c.places c.remaining c.g0 a o (all_words c) s → IsSeen keep.next keep.currents keep.rest behind c.g0 a c.places o
  seen_by None w = tt
  seen_by (Some t) w = seen_of t w

  pub seen : (r : ℕ) → IsSeen keep.next keep.currents keep.rest behind c.g0 a c.places (a.active r)
  seen r = seen_by (a.active r) (h.writers r)

-- The records of the scan of a page can follow. After them a core agrees with its history as before, whose objects are where the records move
-- them, if the record machine lets them follow as records of a collection, they have spellings, and the log has room for them.
pub scan_agrees : (a : Account) (c : Core) (h : Agrees a c) (k : Collection) → h.behind.collection ≡ Some k → (page : ℕ) (records : List Record) → scan_records (spaces_of h.behind) k (all_words c) page ≡ Some records
    → AllByRecursion IsRecord records → after_all h.behind records ≡ collecting_after_all h.behind records → HasRoom c records a → Agrees a (moved c records)
scan_agrees a c h k run page records planned good rows room =
    let kept = keep a c h k run page records planned in
    let step = carried_agrees a c h kept.next kept.currents kept.rest records good (rows ∙ kept.passes) (carried a c h k run page records planned) (left a c h k run page records planned) (seen a c h k run page records planned) room in
    subst (λ (d : Core). Agrees a d) (sym (moved_is c records))
    (subst (λ (p : Placing). Agrees a (record c { pending = c.pending ++ records; places = p.places; remaining = p.remaining })) (sym kept.placed) step)
