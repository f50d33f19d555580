-- A put, a clear and a link are answered as the core answers them, and leave memory as the core is then.
use Rattle.std.proofs.Common.{◌≡◌, ℕ, ◌+◌, ◌*◌, ◌^◌, ◌<◌, List, ◌++◌, length, Option, Some, None, Result, Ok, Err, refl, sym, ap, ◌∙◌, subst}
use Rattle.std.specs.Prelude.{IfOk, fold, nat_le}
use Rattle.std.specs.Option.{option_map}
use Rattle.std.proofs.lemmas.Bool.{leb-false}
use Rattle.graph_model.specs.declared.id.Id.{Id}
use Rattle.graph_model.specs.declared.val.Val.{Val}
use Rattle.graph_model.specs.declared.val.Val.TheVariants.{Null, Int}
use Rattle.graph_model.specs.declared.event.Event.{Event}
use Rattle.graph_model.specs.declared.event.Event.TheVariants.{Put, Clear, Link}
use Rattle.graph_model.specs.declared.reply.Refusal.{Refusal}
use Rattle.graph_model.specs.declared.reply.Refusal.TheVariants.{Range}
use Rattle.graph_model.specs.declared.reply.Reply.{Reply}
use Rattle.graph_model.specs.declared.reply.Reply.TheVariants.{Done, Refused}
use Rattle.graph_model.specs.Locking.{Exclusive, in_mode, lock_of, lock_on}
use Rattle.graph_model.specs.Transaction.{Transaction, IsCall, held, put_value, reference_to, call}
use Rattle.graph_model.specs.History.{Account, account, session_of}
use Rattle.graph_model.specs.Plain.{view, no_int, reply_of, first_of_two}
use Rattle.graph_model.proofs.Refusals.Plain.{call_reply-done}
use Rattle.heap_spaces.specs.Collection.{Collection}
use Rattle.heap_spaces.specs.Spaces.{SpacesState}
use Rattle.heap_words.specs.Word.{bits}
use Rattle.log_records.specs.declared.Record.{Record}
use Rattle.log_machine.specs.Machine.{put_record}
use Rattle.object_locks.specs.declared.holding.Mode.TheVariants as locked
use Rattle.txn_table.specs.declared.place.Place.{Place}
use Rattle.txn_table.specs.declared.place.Place.TheVariants.{Stable, Volatile}
use Rattle.txn_table.specs.Table.{TransactionState}
use Rattle.graph_words.specs.Places.{IsVisible, place_of, bits_of}
use Rattle.heap_model.specs.Core.{Core, barrier_records, call_barrier, ground, view_records, call_records, core_refusal}
use Rattle.core_laws.proofs.Step.Granted.{HasRoom}
use Rattle.core_laws.specs.Valid.{IsValid, RunsLocked}
use Rattle.heap_memory.specs.Memory.{Memory, own, fields_at, place_word, held_place, fields_held}
use Rattle.heap_memory.specs.Collecting.{collection_behind, place_barrier, spaces_behind}
use Rattle.heap_memory.specs.Refusals.{and_then, field_refusal, lock_refusal, range_refusal, write_room, write_refusal_of, write_refusal, put_refusal, clear_refusal, link_refusal}
use Rattle.heap_memory.specs.Leaves as memory
use Rattle.heap_memory.specs.Leaves.{LeavesOwn, IsAsItWas, WritesHeld, Links, with_lock, with_written}
use Rattle.memory_laws.specs.CoreMemory.{IsMemory}
use Rattle.memory_laws.proofs.Behind.Event.{goes_behind, passes_behind, turns_behind}
use Rattle.memory_laws.proofs.Behind.Held.{black_there, held_there, passed, same_barrier, valid_there, within_there, works_there}
use Rattle.memory_laws.proofs.Behind.Sessions.{core_behind, memory_behind}
use Rattle.memory_laws.proofs.Does.{Does}
use Rattle.memory_laws.proofs.Kept.Held.{place_in_word}
use Rattle.memory_laws.proofs.Kept.Parts.{Works, works_of}
use Rattle.memory_laws.proofs.Refusal.LogRoom.{write_has_room}
use Rattle.memory_laws.proofs.Step.Answered.{as_it_was, Goes, does}
use Rattle.memory_laws.proofs.Step.Appended.{own_at}
use Rattle.memory_laws.proofs.Step.Held.{IsHeld, both_none, test_none, held_active, held_free, is_held}
use Rattle.memory_laws.proofs.Step.Wrote.{IsWrite, WritesOwn, own_same, wrote}

-- a number that is not refused fits a field
small_int : (v : ℕ) → range_refusal v ≡ None → v < 2 ^ 62
small_int v e = leb-false no_int v (test_none (nat_le no_int v) Range None e).0

-- a place that is held, of what isn't refused for it
at_place : (r : Result Place Refusal) (next : Place → Option Refusal) (p : Place) → r ≡ Ok p → and_then r next ≡ None → next p ≡ None
at_place r next p is e = ap (λ (q : Result Place Refusal). and_then q next) (sym is) ∙ e

-- a write changes neither the spaces nor the collection
own_still : (words : List ℕ) (y : TransactionState) (p : Place) (i k : ℕ) (spaces : SpacesState) → spaces_behind spaces (memory.write_records words y p i k) ≡ spaces
own_still words y (Stable at) i k spaces = refl
own_still words y (Volatile at) i k spaces = refl

own_runs : (words : List ℕ) (y : TransactionState) (p : Place) (i k : ℕ) (o : Option Collection) → collection_behind o (memory.write_records words y p i k) ≡ o
own_runs words y (Stable at) i k o = refl
own_runs words y (Volatile at) i k o = refl

module _ (m n : Memory) (c : Core) (valid : IsValid c) (runs : RunsLocked c.g0 c.first c.history) (is : IsMemory m (account c.history) c) (s : ℕ) where
  -- what the history says
  abbrev a : Account
  a = account c.history

  -- the words and the sessions are the core's
  works : Works m a c
  works = works_of m a c is

  -- the core after the barrier of an event
  abbrev behind : Event → Core
  behind event = core_behind c (barrier_records c event)

  -- memory with the effect of the barrier's records
  abbrev mid : Event → Memory
  mid event = memory_behind m (barrier_records c event)

  -- a write that is not refused is of a field, and the log has room for it
  granted_write : (o : Option TransactionState) (p : Place) (i : ℕ) → write_refusal_of m o p i ≡ None → (field_refusal (length (fields_held m o (Ok p))) i ≡ None) × (write_room m p i ≡ None)
  granted_write None p i e = cc e
  granted_write (Some x) p i e =
      let first = both_none (field_refusal (length (fields_at m.words x.area p)) i) (first_of_two (lock_refusal m.locks x locked.Exclusive p) (write_room m p i)) e in
      let second = both_none (lock_refusal m.locks x locked.Exclusive p) (write_room m p i) first.1 in
      (first.0, second.1)

  -- An event that writes into a field of the object that a handle holds.
  module _ (t : Transaction) (event : Event) (h i : ℕ) (e : a.active s ≡ Some t) (form : barrier_records c event ≡ call_barrier (ground c) c.g0 a (a.active s) h i)
      (p : Place) (there : held_place (own m s) h ≡ Ok p) (granted : write_refusal m s p i ≡ None) where
    same : place_barrier m p i ≡ barrier_records c event
    same = same_barrier m c valid runs is s t e event h i form p there

    room : HasRoom c (barrier_records c event) a
    room = write_has_room m c valid is p i (barrier_records c event) (passed m c valid runs is s t e event h i form p there) same (granted_write (own m s) p i granted).1

    abbrev valid_behind : IsValid (behind event)
    valid_behind = valid_there m c valid runs is s t e event h i form p there room

    works_behind : Works (mid event) a (behind event)
    works_behind = works_there m c valid runs is s t e event h i form p there

    abbrev one : IsHeld (behind event).places (view c.g0 a t) t.number h p
    one = held_there m c valid runs is s t e event h i form p there room

    -- What the write leaves, with the records that the core plans.
    module _ (k : ℕ) (writes : memory.Writes m n s p i k) where
      abbrev y : TransactionState
      y = writes.transaction

      -- what the event itself appends, as memory gives it
      abbrev own_part : List Record
      own_part = memory.write_records (mid event).words y p i k

      left : LeavesOwn m n s (barrier_records c event ++ own_part) (with_written (mid event).words y p i k) (with_lock m.locks y locked.Exclusive p)
      left =
          let L : List Record → Type 0 = λ rs. let words = fold put_record m.words rs in LeavesOwn m n s (rs ++ memory.write_records words y p i k) (with_written words y p i k) (with_lock m.locks y locked.Exclusive p) in
          subst L same writes.left

      abbrev wrote_own : WritesOwn (mid event) n s p i k
      wrote_own =
          let turns = turns_behind m n c is (barrier_records c event) own_part (barrier_records c event ++ own_part) refl left in
          record {
            transaction = y;
            was = writes.was;
            left = record {
              words = turns.words;
              table = turns.table;
              locks = turns.locks;
              spaces = turns.spaces ∙ own_still (mid event).words y p i k (mid event).spaces;
              collection = turns.collection ∙ own_runs (mid event).words y p i k (mid event).collection;
              sealed = turns.sealed;
            };
          }

    -- a write of a value leaves memory as the core is then
    wrote_held : (x : Val) → IsCall event → session_of event ≡ s → core_refusal c event ≡ None
        → (call (view c.g0 a t) t.number event).view ≡ record (view c.g0 a t) { graph = put_value (view c.g0 a t).graph (held (view c.g0 a t).registers h) i x }
        → lock_of (view c.g0 a t).registers event ≡ lock_on (view c.g0 a t).registers h Exclusive
        → own_at (behind event) event ≡ view_records (behind event).places t.number (view c.g0 a t) h i x → IsVisible (behind event).places t.number (view c.g0 a t).made x
        → memory.Writes m n s p i (bits_of (place_of (behind event).places (view c.g0 a t).graph) x) → Goes n c event
    wrote_held x called_it session goes sees needs appends seen writes =
        let k = bits_of (place_of (behind event).places (view c.g0 a t).graph) x in
        let count = ap (λ (r : Result Place Refusal). field_refusal (length (fields_held m (own m s) r)) i) there ∙ (granted_write (own m s) p i granted).0 in
        let write : IsWrite (mid event) n (behind event) valid_behind runs works_behind s event h i x = record {
          t = t;
          active = e;
          called_it = called_it;
          session = session;
          sees = sees;
          appends = appends;
          p = p;
          one = one;
          within = within_there m c valid runs is s t e event h i form p there room count;
          seen = seen;
          free = held_free m c valid runs works s t e event session goes h Exclusive needs one.id one.holds;
          black = black_there m c valid runs is s t e event h i form p there room;
          writes = wrote_own k writes;
          needs = needs ∙ ap (option_map (in_mode Exclusive)) one.holds;
        } in
        let tells = wrote (mid event) n (behind event) valid_behind runs works_behind s event h i x write in
        let same_own = own_same (mid event) n (behind event) valid_behind runs works_behind s event h i x write in
        goes_behind n c event called_it
        (passes_behind m n c is (barrier_records c event) (own_part k writes) (barrier_records c event ++ own_part k writes) refl (left k writes) event same_own tells)

  -- a put is answered as the core answers it, and the number is in the field then
  pub put_does : {E : Type 0} (h i v : ℕ) → core_refusal c (Put s h i v) ≡ put_refusal m s h i v → (result : Result Reply E) → IfOk result (λ reply. reply ≡ reply_of (put_refusal m s h i v) Done)
      → (result ≡ Ok Done → WritesHeld m n s h i (4 * v + 1)) → ((why : Refusal) → result ≡ Ok (Refused why) → IsAsItWas m n) → IfOk result (λ reply. Does c (Put s h i v) reply n)
  put_does h i v alike (Err e) replied wrote_it stayed = tt
  put_does h i v alike (Ok reply) replied wrote_it stayed =
      let event : Event = Put s h i v in
      does c event (put_refusal m s h i v) Done reply n alike replied (λ e. call_reply-done c.g0 a (a.active s) event tt)
      (λ e done_it.
      let held_it = wrote_it (ap Ok done_it) in
      let t = held_active m c valid runs works s h held_it.place held_it.held in
      let granted = both_none (range_refusal v) (write_refusal m s held_it.place i)
      (at_place (held_place (own m s) h) (λ p. first_of_two (range_refusal v) (write_refusal m s p i)) held_it.place held_it.held e) in
      wrote_held t.0 event h i t.1 refl held_it.place held_it.held granted.1 (Int v) tt refl (alike ∙ e) refl refl
      (ap (λ (o : Option Transaction). call_records (ground (behind event)) c.g0 a o event) t.1) (small_int v granted.0) held_it.writes)
      (λ why e. as_it_was m n c is (stayed why (ap Ok e)))

  -- a clear is answered as the core answers it, and the field is null then
  pub clear_does : {E : Type 0} (h i : ℕ) → core_refusal c (Clear s h i) ≡ clear_refusal m s h i → (result : Result Reply E) → IfOk result (λ reply. reply ≡ reply_of (clear_refusal m s h i) Done)
      → (result ≡ Ok Done → WritesHeld m n s h i 0) → ((why : Refusal) → result ≡ Ok (Refused why) → IsAsItWas m n) → IfOk result (λ reply. Does c (Clear s h i) reply n)
  clear_does h i alike (Err e) replied wrote_it stayed = tt
  clear_does h i alike (Ok reply) replied wrote_it stayed =
      let event : Event = Clear s h i in
      does c event (clear_refusal m s h i) Done reply n alike replied (λ e. call_reply-done c.g0 a (a.active s) event tt)
      (λ e done_it.
      let held_it = wrote_it (ap Ok done_it) in
      let t = held_active m c valid runs works s h held_it.place held_it.held in
      let granted = at_place (held_place (own m s) h) (λ p. write_refusal m s p i) held_it.place held_it.held e in
      wrote_held t.0 event h i t.1 refl held_it.place held_it.held granted Null tt refl (alike ∙ e) refl refl
      (ap (λ (o : Option Transaction). call_records (ground (behind event)) c.g0 a o event) t.1) tt held_it.writes)
      (λ why e. as_it_was m n c is (stayed why (ap Ok e)))

  -- a link leaves memory as the core is then
  linked : (h i h2 : ℕ) → core_refusal c (Link s h i h2) ≡ None → link_refusal m s h i h2 ≡ None → Links m n s h i h2 → Goes n c (Link s h i h2)
  linked h i h2 goes e links =
      let event : Event = Link s h i h2 in
      let held_it = links.writes in
      let p = held_it.place in
      let t = held_active m c valid runs works s h p held_it.held in
      let v = view c.g0 a t.0 in
      let d = behind event in
      let granted = at_place (held_place (own m s) h2) (λ q. write_refusal m s p i) links.target links.held
      (at_place (held_place (own m s) h) (λ p. and_then (held_place (own m s) h2) (λ q. write_refusal m s p i)) p held_it.held e) in
      let right = valid_behind t.0 event h i t.1 refl p held_it.held granted in
      let other = is_held (mid event) d right runs (works_behind t.0 event h i t.1 refl p held_it.held granted) s t.0 t.1 h2 links.target links.held in
      let word : bits (place_word links.target) ≡ bits_of (place_of d.places v.graph) (reference_to (held v.registers h2)) =
      ap (λ (q : Place). bits (place_word q)) (sym other.place) ∙ ap bits (place_in_word d.places v.graph other.id)
      ∙ ap (λ (o : Option Id). bits_of (place_of d.places v.graph) (reference_to o)) (sym other.holds) in
      wrote_held t.0 event h i t.1 refl p held_it.held granted (reference_to (held v.registers h2)) tt refl goes refl refl
      (ap (λ (o : Option Transaction). call_records (ground d) c.g0 a o event) t.1)
      (subst (λ (o : Option Id). IsVisible d.places t.0.number v.made (reference_to o)) (sym other.holds) other.at_hand) (subst (memory.Writes m n s p i) word held_it.writes)

  -- a link is answered as the core answers it, and the field refers to what the other handle holds then
  pub link_does : {E : Type 0} (h i h2 : ℕ) → core_refusal c (Link s h i h2) ≡ link_refusal m s h i h2 → (result : Result Reply E) → IfOk result (λ reply. reply ≡ reply_of (link_refusal m s h i h2) Done)
      → (result ≡ Ok Done → Links m n s h i h2) → ((why : Refusal) → result ≡ Ok (Refused why) → IsAsItWas m n) → IfOk result (λ reply. Does c (Link s h i h2) reply n)
  link_does h i h2 alike (Err e) replied linked_it stayed = tt
  link_does h i h2 alike (Ok reply) replied linked_it stayed =
      let event : Event = Link s h i h2 in
      does c event (link_refusal m s h i h2) Done reply n alike replied (λ e. call_reply-done c.g0 a (a.active s) event tt)
      (λ e done_it. linked h i h2 (alike ∙ e) e (linked_it (ap Ok done_it)))
      (λ why e. as_it_was m n c is (stayed why (ap Ok e)))
