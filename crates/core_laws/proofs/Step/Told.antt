-- Records that encode a graph, with one event's records appended, where other transactions have written other fields.
use Rattle.std.proofs.Common.{◌≡◌, ℕ, ◌+◌, ◌<◌, Bool, true, max, List, [], ◌∷◌, ◌++◌, length, Some, sym, subst, arith, get_or, ◌∙◌, refl, ◌≤◌, Option, None, ap}
use Rattle.std.specs.Prelude.{slice_index_or, fold, false}
use Rattle.std.specs.List.{AllByRecursion}
use Rattle.std.proofs.lemmas.Option.{same_Some}
use Rattle.std.specs.FinMap.{FinMap, get, entries}
use Rattle.std.specs.Ordering.{nat_cmp}
use Rattle.graph_model.specs.declared.id.Id.{Id}
use Rattle.graph_model.specs.declared.val.Val.{Val}
use Rattle.graph_model.specs.declared.val.Val.TheVariants.{Null}
use Rattle.graph_model.specs.Graph.{Graph, fields}
use Rattle.graph_model.specs.Locking.{Lock}
use Rattle.graph_model.specs.Transaction.{View}
use Rattle.heap_words.specs.Word.{IsFieldWord}
use Rattle.log_records.specs.Record.{IsRecord}
use Rattle.log_records.specs.declared.Record.{Record}
use Rattle.log_machine.proofs.AbortLaws.{abort_reaches, abort_good, abort_words}
use Rattle.log_machine.proofs.Fields.{IsApart}
use Rattle.log_machine.specs.Apart.{others_taken_back}
use Rattle.log_machine.proofs.TakenBackLaws.{taken_back-Update, taken_back-abort}
use Rattle.log_machine.proofs.ListLaws.{AllByRecursion-append}
use Rattle.log_machine.specs.Machine.{State, start, after_all, put_record, all_taken_back, each_taken_back, field_at, owed, undo_of, taken_back, with_entries, with_word, is_number, turned, abort_records}
use Rattle.log_machine.proofs.MachineLaws.{after_all-append, after_all-append2, number_small, inside_from, after-Update}
use Rattle.log_machine.proofs.MapLaws.{each_insert, each_remove, remove_absent}
use Rattle.log_machine.specs.Sound.{AreLosers}
use Rattle.log_machine.specs.UndoEntry.{LiesInside, undo_entry}
use Rattle.log_machine.proofs.StateLaws.{can_roll_back, all_spelled, each_at, spaced_ends}
use Rattle.log_machine.specs.declared.UndoEntry.{UndoEntry}
use Rattle.object_layout.specs.Layout.{object_at}
use Rattle.object_layout.proofs.LayoutLaws.{object_small}
use Rattle.graph_words.specs.Places.{AreOld, Places, address_of, IsVisible}
use Rattle.graph_words.specs.Stands.{StandsCommitted}
use Rattle.graph_words.proofs.Places.Addresses.{address_of-Contains}
use Rattle.graph_words.proofs.Stands.Objects.{visible_field_word}
use Rattle.collection_words.specs.Completed.{completed, completed_places, future}
use Rattle.collection_words.specs.LaidOut.{AreHeapWords, is_gray_field}
use Rattle.collection_words.specs.Writes.{AreBacked, IsCurrentField, IsHereWrite}
use Rattle.collection_words.proofs.Heap.Cases.{heap_word}
use Rattle.collection_words.proofs.Heap.Front.{visible_front}
use Rattle.collection_words.proofs.Heap.Write.{backed_taken_back, backed_write, heap_taken_back, heap_turned, heap_write}
use Rattle.collection_words.proofs.Laid.Within.{placed_within}
use Rattle.heap_model.proofs.Step.Goes.{told_sound}
use Rattle.walk_laws.specs.Heap.{AreSpaces, TellsBirths}
use Rattle.walk_laws.proofs.Birth.TakenBack.{births_back}
use Rattle.heap_model.proofs.Opening.Lists.{tells_lists}
use Rattle.heap_model.proofs.Opening.Told.{older, word_in, entry_of, update_of, written}
use Rattle.heap_model.specs.Bits.{AreOf64Bits}
use Rattle.heap_model.specs.CoreTold.{IsTold}
use Rattle.heap_model.proofs.Step.Bits.{fit_behind, fit_record}
use Rattle.seen_laws.specs.Heap.{AreAllBacked}
use Rattle.core_laws.proofs.Sessions.Whole.{same_word, seen_leads, whole_made}
use Rattle.core_laws.specs.Valid.{IsWriting}

-- Losers.

-- a transaction that no record mentions has no writes that may be taken back
pub none_yet : (s : State) (t : ℕ) → AreLosers s → s.next ≤ t → get s.undo t ≡ None
none_yet s t sound above =
    none (get s.undo t) refl
  where
    none : (o : Option (List UndoEntry)) → get s.undo t ≡ o → o ≡ None
    none None is = refl
    none (Some us) is = let known = (sound t us is).known in absurd (omega arith)

-- the writes of all others are those of all
pub others_all : (s : State) (t : ℕ) (now : List ℕ) → get s.undo t ≡ None → others_taken_back s t now ≡ all_taken_back s now
others_all s t now none = ap (λ m. each_taken_back (entries m) now) (remove_absent s.undo t none)

-- A write.

-- A write of a value into field i of an object that stands at an address, with the field's value before it, by transaction t: the field
-- is one of the used words and not gray, no other transaction has written it, and both values are seen among the current objects.
pub record IsWriteAt (pages first_number : ℕ) (born : Bool) (places remaining : Places) (base : Graph) (v : View) (k t : ℕ) (locks : List Lock) (records : List Record) (now : List ℕ) (state : State) (id : Id) (at i : ℕ) (x : Val) : Type 0 where
  pub told : IsTold (start pages first_number) born places remaining base k records now state
  pub number : is_number t ≡ true
  pub apart : IsApart state t (entry_of places v.graph id at i ∷ undo_of state t)
  pub writing : IsWriting places remaining v t locks now state
  pub place : address_of places id ≡ Some at
  pub object : object_at now at ≡ Some (length (fields v.graph id))
  pub within : i < length (fields v.graph id)
  pub seen : IsVisible places t v.made x
  pub black : is_gray_field state.collection at i ≡ false
  pub old : IsVisible places t v.made (slice_index_or (fields v.graph id) i Null)
  pub was : get_or now (field_at at i) 0 ≡ word_in places v.graph (slice_index_or (fields v.graph id) i Null)

-- the words of both spaces
heap_spaces : {s : State} {places remaining : Places} {words : List ℕ} → AreHeapWords s places remaining words → AreSpaces s words
heap_spaces heap = record { spaced = heap.spaced; long = heap.long; small = heap.small }

-- births are known where other writes may be taken back
tells_turned : (s : State) (t : ℕ) (undo : FinMap nat_cmp (List UndoEntry)) (more : ℕ) (places remaining : Places) (words : List ℕ) → TellsBirths s places remaining words
    → TellsBirths (turned s t undo more) places remaining words
tells_turned s t undo more places remaining words tells = tells_lists s undo (s.commits + more) (max s.next (t + 1)) places remaining words tells

-- what is encoded of the same graph after one more record
told_on : {from : State} {born : Bool} {places remaining : Places} {g : Graph} {k : ℕ} {records : List Record} {now : List ℕ} {state : State} → IsTold from born places remaining g k records now state
    → (more : List Record) (words : List ℕ) (later : State) → AllByRecursion IsRecord more → after_all from (records ++ more) ≡ Some later → later.commits ≡ state.commits → state.next ≤ later.next → later.base ≡ state.base
    → later.used + owed later ≡ state.used + owed state → AreHeapWords later places remaining words → AreOf64Bits words → AreAllBacked later places words → completed_places later places remaining words ≡ completed_places state places remaining now
    → all_taken_back later (completed later places remaining words) ≡ all_taken_back state (completed state places remaining now)
    → (TellsBirths state places remaining now → TellsBirths later places remaining words) → IsTold from born places remaining g k (records ++ more) words later
told_on {from} {born} {places} {remaining} {g} {k} {records} {now} {state} told more words later good reached commits next base used heap fit backed there same tells = record {
  good = AllByRecursion-append IsRecord records more told.good good;
  reached = reached;
  count = commits ∙ told.count;
  heap = heap;
  fit = fit;
  backed = backed;
  stands = subst (λ (n : ℕ). StandsCommitted (completed_places later places remaining words) g (all_taken_back later (completed later places remaining words)) n (later.used + owed later)) (sym base)
      (subst (λ (n : ℕ). StandsCommitted (completed_places later places remaining words) g (all_taken_back later (completed later places remaining words)) state.base n) (sym used)
      (subst (λ (ws : List ℕ). StandsCommitted (completed_places later places remaining words) g ws state.base (state.used + owed state)) (sym same)
      (subst (λ (ps : Places). StandsCommitted ps g (all_taken_back state (completed state places remaining now)) state.base (state.used + owed state)) (sym there) told.stands)));
  old = older state.next later.next (completed_places later places remaining words) next (subst (AreOld state.next) (sym there) told.old);
  births = λ by_birth. tells (told.births by_birth);
}

module _ (pages first_number : ℕ) (born : Bool) (places remaining : Places) (base : Graph) (v : View) (k t : ℕ) (locks : List Lock) (records : List Record) (now : List ℕ) (state : State) (id : Id) (at i : ℕ) (x : Val)
    (w : IsWriteAt pages first_number born places remaining base v k t locks records now state id at i x) where
  -- the words with it
  abbrev pub written_words : List ℕ
  written_words = put_record now (update_of places v.graph t id at i x)

  -- the write that may be taken back
  abbrev entry : UndoEntry
  entry = entry_of places v.graph id at i

  -- the completed words before it
  abbrev whole_now : List ℕ
  whole_now = completed state places remaining now

  current : IsCurrentField places now at i
  current = record { start = address_of-Contains places id at w.place; fields = length (fields v.graph id); stands = w.object; within = w.within }

  -- it puts a word that leads to current objects into a field of one
  pub here : IsHereWrite places now at i (word_in places v.graph x)
  here = record { is = current; leads = seen_leads w.writing x w.seen }

  -- and so would what takes it back
  pub back : IsHereWrite places now at i entry.was
  back = record { is = current; leads = seen_leads w.writing (slice_index_or (fields v.graph id) i Null) w.old }

  pub inside : LiesInside state.base state.used entry
  inside =
      let lies = placed_within w.told.heap.laid id at w.place in
      let same = same_Some lies.fields (length (fields v.graph id)) (sym lies.object ∙ w.object) in
      let within = w.within in
      let below = lies.below in
      record { above = lies.above; below = omega arith }

  reached : after_all (start pages first_number) (records ++ update_of places v.graph t id at i x ∷ []) ≡ Some (written state t entry)
  reached =
      let in_range = inside_from state entry inside in
      after_all-append (start pages first_number) state records (update_of places v.graph t id at i x) w.told.reached
      ∙ after-Update state t at i entry.was (word_in places v.graph x) w.number in_range

  -- the field's word is its own in the completed words
  pub was_whole : get_or whole_now (field_at at i) 0 ≡ entry.was
  was_whole = heap_word w.told.heap at (length (fields v.graph id)) i current.start w.object w.within w.black ∙ w.was

  committed : all_taken_back (written state t entry) (with_word whole_now at i (word_in places v.graph x)) ≡ all_taken_back state whole_now
  committed = taken_back-Update state whole_now t at i entry.was (word_in places v.graph x) (told_sound w.told) was_whole w.apart

  spelled : IsRecord (update_of places v.graph t id at i x)
  spelled =
      let small = number_small t w.number in
      let lies = placed_within w.told.heap.laid id at w.place in
      let below = inside.below in
      let ends = spaced_ends state w.told.heap.spaced in
      let top = w.told.heap.small in
      let short = (object_small now at (length (fields v.graph id)) w.object) in
      let within = w.within in
      let old = slice_index_or (fields v.graph id) i Null in
      let field_word : (y : Val) → IsVisible places t v.made y → IsFieldWord (word_in places v.graph y) = λ y seen.
      subst IsFieldWord (same_word w.writing y seen) (visible_field_word w.writing.stands (whole_made w.writing) y (visible_front places (future state now remaining) t v.made y seen)) in
      record {
        t_fits = omega arith;
        object_fits = omega arith;
        field_fits = omega arith;
        was_word = field_word old w.old;
        new_word = field_word x w.seen;
      }

  -- the records encode the same graph with it
  pub write_told : IsTold (start pages first_number) born places remaining base k (records ++ update_of places v.graph t id at i x ∷ []) written_words (written state t entry)
  write_told =
      let left = heap_write w.told.heap here in
      let own : AreBacked places now (entry ∷ undo_of state t) = (back, each_at (λ q us. AreBacked places now us) state.undo t tt w.told.backed) in
      told_on w.told (update_of places v.graph t id at i x ∷ []) written_words (written state t entry) (spelled, tt) reached (omega arith) (omega arith) refl refl
      (heap_turned t (with_entries state.undo t (entry ∷ undo_of state t)) 0 left.heap)
      (fit_record now (update_of places v.graph t id at i x) w.told.fit spelled)
      (each_insert (λ q us. AreBacked places written_words us) state.undo t (entry ∷ undo_of state t) (backed_write w.told.heap here (entry ∷ undo_of state t) own)
      (λ q us is. backed_write w.told.heap here us (w.told.backed q us is)))
      left.there (ap (all_taken_back (written state t entry)) left.same ∙ committed)
      (λ tells. tells_turned state t (with_entries state.undo t (entry ∷ undo_of state t)) 0 places remaining written_words
      (births_back state places remaining now (undo_entry at i (word_in places v.graph x) ∷ []) (heap_spaces w.told.heap) w.told.heap.laid (here, tt) tells))

-- An abort.

module _ (pages first_number : ℕ) (born : Bool) (places remaining : Places) (g : Graph) (k t : ℕ) (records : List Record) (now : List ℕ) (state : State)
    (told : IsTold (start pages first_number) born places remaining g k records now state) (some : 1 ≤ pages) (few : pages ≤ 16384) (number : is_number t ≡ true) (apart : IsApart state t (undo_of state t)) where
  abbrev last : State
  last = turned state t (with_entries state.undo t []) 0

  abbrev taken : List ℕ
  taken = taken_back (undo_of state t) now

  -- what would take it back leads to current objects
  pub own_backed : AreBacked places now (undo_of state t)
  own_backed = each_at (λ q us. AreBacked places now us) state.undo t tt told.backed

  taken_told : IsTold (start pages first_number) born places remaining g k (records ++ abort_records t (undo_of state t)) taken last
  taken_told =
      let small = number_small t number in
      let can = can_roll_back pages first_number state records some few told.good told.reached in
      let left = heap_taken_back (undo_of state t) told.heap own_backed in
      let whole_now = completed state places remaining now in
      let good = abort_good t (undo_of state t) (omega arith) (all_spelled state.undo t can.entries) in
      told_on told (abort_records t (undo_of state t)) taken last good
      (after_all-append2 (start pages first_number) state records (abort_records t (undo_of state t)) told.reached ∙ abort_reaches state t number can.sound) (omega arith) (omega arith) refl refl
      (heap_turned t (with_entries state.undo t []) 0 left.heap)
      (subst AreOf64Bits (abort_words t (undo_of state t) now) (fit_behind now (abort_records t (undo_of state t)) told.fit good))
      (each_remove (λ q us. AreBacked places taken us) state.undo t (λ q us is. backed_taken_back (undo_of state t) told.heap own_backed us (told.backed q us is)))
      left.there
      (ap (all_taken_back last) (left.same ∙ sym (abort_words t (undo_of state t) whole_now)) ∙ taken_back-abort state whole_now t (told_sound told) apart)
      (λ tells. tells_turned state t (with_entries state.undo t []) 0 places remaining taken
      (births_back state places remaining now (undo_of state t) (heap_spaces told.heap) told.heap.laid own_backed tells))

  -- A transaction is taken back and leaves nothing: the records encode the same graph.
  pub abort_told : IsTold (start pages first_number) born places remaining g k (records ++ abort_records t (undo_of state t)) (fold put_record now (abort_records t (undo_of state t))) last
  abort_told =
      subst (λ (ws : List ℕ). IsTold (start pages first_number) born places remaining g k (records ++ abort_records t (undo_of state t)) ws last) (sym (abort_words t (undo_of state t) now)) taken_told
