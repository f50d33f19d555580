-- A get is answered as the core answers it, and leaves memory as the core is then.
use Rattle.std.proofs.Common.{◌≡◌, ℕ, List, [], length, Option, Some, None, Result, Ok, refl, sym, ap, ◌∙◌, subst}
use Rattle.std.specs.Prelude.{fold, slice_index, slice_index_or}
use Rattle.std.specs.Option.{option_map}
use Rattle.std.proofs.lemmas.List.{append-nil}
use Rattle.graph_model.specs.declared.id.Id.{Id}
use Rattle.graph_model.specs.declared.val.Val.{Val}
use Rattle.graph_model.specs.declared.val.Val.TheVariants.{Null, Int, Ref}
use Rattle.graph_model.specs.declared.event.Event.{Event}
use Rattle.graph_model.specs.declared.event.Event.TheVariants.{Get}
use Rattle.graph_model.specs.declared.reply.Refusal.{Refusal}
use Rattle.graph_model.specs.declared.reply.Reply.{Reply}
use Rattle.graph_model.specs.declared.reply.Reply.TheVariants as answer
use Rattle.graph_model.specs.Graph.{Graph, fields}
use Rattle.graph_model.specs.Locking.{Shared, in_mode}
use Rattle.graph_model.specs.Transaction.{Transaction, View, call, fields_of, value_reply, with_referred}
use Rattle.graph_model.specs.History.{Account, account}
use Rattle.graph_model.specs.Plain.{view, call_reply, first_of_two, reply_of}
use Rattle.heap_words.specs.declared.Word.{Word}
use Rattle.heap_words.specs.Word.{meaning}
use Rattle.log_records.specs.declared.Record.{Record}
use Rattle.log_machine.specs.declared.UndoEntry.{UndoEntry}
use Rattle.log_machine.specs.Machine.{put_record, undo_of}
use Rattle.object_locks.specs.declared.holding.Mode.TheVariants as locked
use Rattle.txn_table.specs.declared.place.Place.{Place}
use Rattle.txn_table.specs.Table.{TransactionState}
use Rattle.graph_words.specs.Places.{Places, address_of, index_of, standing, place_of, word_of}
use Rattle.heap_model.specs.Core.{Core, barrier_records, call_records, core_refusal, ground}
use Rattle.core_laws.proofs.Step.Granted.{HasRoom}
use Rattle.core_laws.proofs.Sessions.Actives.{called}
use Rattle.core_laws.specs.Valid.{IsValid, RunsLocked}
use Rattle.heap_memory.specs.Memory.{Memory, own, fields_at, held_place, fields_held}
use Rattle.heap_memory.specs.Collecting.{place_barrier}
use Rattle.heap_memory.specs.Refusals.{handle_refusal, and_then, field_refusal, lock_refusal, read_refusal_of, records_room, get_refusal}
use Rattle.heap_memory.specs.Replies.{word_reply, meant_behind, meant_held, words_behind, get_reply, IsGranted}
use Rattle.heap_memory.specs.Leaves.{Gets, GetsAt, IsAsItWas, LeavesOwn, with_handle, with_read, with_lock}
use Rattle.memory_laws.specs.CoreMemory.{standing_place, place_in, kept, AreHeld, IsMemory}
use Rattle.memory_laws.proofs.Behind.Event.{goes_behind, passes_behind, turns_behind}
use Rattle.memory_laws.proofs.Behind.Held.{black_there, held_there, passed, same_barrier, valid_there, within_there, works_there}
use Rattle.memory_laws.proofs.Behind.Sessions.{core_behind, memory_behind}
use Rattle.memory_laws.proofs.Does.{Does}
use Rattle.memory_laws.proofs.Kept.Locks.{held_used}
use Rattle.memory_laws.proofs.Kept.Parts.{Works, works_of}
use Rattle.memory_laws.proofs.Refusal.LogRoom.{read_has_room}
use Rattle.memory_laws.proofs.Step.Answered.{as_it_was, Goes, does}
use Rattle.memory_laws.proofs.Step.Appended.{own_at, quiet_goes}
use Rattle.memory_laws.proofs.Step.Held.{IsHeld, got_place, both_none, own_is, held_active, held_meaning, held_free}
use Rattle.memory_laws.proofs.Step.Handles.{kept_set}

-- where a word means that an object stands there, a handle comes to hold it
read_standing : (places : Places) (v : View) (t : ℕ) (undo : List UndoEntry) (h : ℕ) (o : Option ℕ) (index : ℕ)
    → with_read (kept places v t undo) h (Some (standing o index)) ≡ with_handle (kept places v t undo) h (Some (standing_place o index))
read_standing places v t undo h None index = refl
read_standing places v t undo h (Some at) index = refl

-- what is kept when a value was read
kept_read : (places : Places) (v : View) (t : ℕ) (undo : List UndoEntry) (h : ℕ) (x : Val)
    → with_read (kept places v t undo) h (Some (word_of (place_of places v.graph) x)) ≡ kept places (record v { registers = with_referred v.registers h x }) t undo
kept_read places v t undo h Null = refl
kept_read places v t undo h (Int n) = refl
kept_read places v t undo h (Ref id) =
    read_standing places v t undo h (address_of places id) (index_of v.graph id) ∙ kept_set places v t undo h (Some id) (Some (place_in places v.graph id)) refl

-- where an object stands the answer is a reference
standing_reply : (o : Option ℕ) (index : ℕ) → word_reply (Some (standing o index)) ≡ answer.Reference
standing_reply None index = refl
standing_reply (Some at) index = refl

-- the word of a value is answered as the value
value_word_reply : (places : Places) (g : Graph) (x : Val) → word_reply (Some (word_of (place_of places g) x)) ≡ value_reply x
value_word_reply places g Null = refl
value_word_reply places g (Int n) = refl
value_word_reply places g (Ref id) = standing_reply (address_of places id) (index_of g id)

-- a value is no refusal
value_granted : (x : Val) → IsGranted (value_reply x)
value_granted Null = tt
value_granted (Int n) = tt
value_granted (Ref id) = tt

module _ (m n : Memory) (c : Core) (valid : IsValid c) (runs : RunsLocked c.g0 c.first c.history) (is : IsMemory m (account c.history) c) (s : ℕ) where
  -- what the history says
  abbrev a : Account
  a = account c.history

  -- the words and the sessions are the core's
  works : Works m a c
  works = works_of m a c is

  -- a read that is not refused is of a field, and the log has room for the scan before it
  granted_read : (o : Option TransactionState) (p : Place) (i : ℕ) → read_refusal_of m o p i ≡ None
      → (field_refusal (length (fields_held m o (Ok p))) i ≡ None) × (records_room m (place_barrier m p i) ≡ None)
  granted_read None p i e = cc e
  granted_read (Some x) p i e =
      let first = both_none (field_refusal (length (fields_at m.words x.area p)) i) (first_of_two (lock_refusal m.locks x locked.Shared p) (records_room m (place_barrier m p i))) e in
      let second = both_none (lock_refusal m.locks x locked.Shared p) (records_room m (place_barrier m p i)) first.1 in
      (first.0, second.1)

  -- A get that is not refused, of what a handle holds.
  record IsRead (h i h2 : ℕ) : Type 0 where
    t : Transaction
    active : a.active s ≡ Some t
    p : Place
    there : held_place (own m s) h ≡ Ok p
    granted : read_refusal_of m (own m s) p i ≡ None
    goes : core_refusal c (Get s h i h2) ≡ None

  is_read : (h i h2 : ℕ) → core_refusal c (Get s h i h2) ≡ get_refusal m s h i h2 → get_refusal m s h i h2 ≡ None → IsRead h i h2
  is_read h i h2 same e =
      let second = both_none (handle_refusal (own m s) h2) (and_then (held_place (own m s) h) (λ p. read_refusal_of m (own m s) p i)) e in
      let got = got_place (held_place (own m s) h) (λ p. read_refusal_of m (own m s) p i) second.1 in
      let t = held_active m c valid runs works s h got.0 got.1 in
      record { t = t.0; active = t.1; p = got.0; there = got.1; granted = got.2; goes = same ∙ e }

  module _ (h i h2 : ℕ) (read : IsRead h i h2) where
    abbrev event : Event
    event = Get s h i h2

    abbrev t : Transaction
    t = read.t

    -- what the transaction sees
    abbrev v : View
    v = view c.g0 a t

    -- the records of the scan before it, and the core after them
    abbrev records : List Record
    records = barrier_records c event

    abbrev d : Core
    d = core_behind c records

    -- memory with their effect
    abbrev mid : Memory
    mid = memory_behind m records

    same : place_barrier m read.p i ≡ records
    same = same_barrier m c valid runs is s t read.active event h i refl read.p read.there

    room : HasRoom c records a
    room =
        read_has_room m c valid is records (passed m c valid runs is s t read.active event h i refl read.p read.there)
        (subst (λ (rs : List Record). records_room m rs ≡ None) same (granted_read (own m s) read.p i read.granted).1)

    abbrev right : IsValid d
    right = valid_there m c valid runs is s t read.active event h i refl read.p read.there room

    works_behind : Works mid a d
    works_behind = works_there m c valid runs is s t read.active event h i refl read.p read.there

    abbrev one : IsHeld d.places v t.number h read.p
    one = held_there m c valid runs is s t read.active event h i refl read.p read.there room

    -- the value that is read
    abbrev value_read : Val
    value_read = slice_index_or (fields v.graph one.id) i Null

    -- its word means it
    meant_there : meant_held mid s h i ≡ Some (word_of (place_of d.places v.graph) value_read)
    meant_there =
        let count = ap (λ (r : Result Place Refusal). field_refusal (length (fields_held m (own m s) r)) i) read.there ∙ (granted_read (own m s) read.p i read.granted).0 in
        held_meaning mid d right runs works_behind s t read.active h i read.p read.there one
        (within_there m c valid runs is s t read.active event h i refl read.p read.there room count)
        (held_free m c valid runs works s t read.active event refl read.goes h Shared refl one.id one.holds)
        (black_there m c valid runs is s t read.active event h i refl read.p read.there room)

    meant : meant_behind m s h i ≡ Some (word_of (place_of d.places v.graph) value_read)
    meant =
        ap (λ (r : Result Place Refusal). meant_held (record m { words = words_behind m r i }) s h i) read.there
        ∙ ap (λ (rs : List Record). meant_held (record m { words = fold put_record m.words rs }) s h i) same
        ∙ meant_there

    -- it is answered as the core answers it
    got_reply : call_reply c.g0 a (a.active s) event ≡ get_reply m s h i
    got_reply =
        ap (λ (o : Option Transaction). call_reply c.g0 a o event) read.active
        ∙ ap (λ (o : Option Id). value_reply (slice_index_or (fields_of v.graph o) i Null)) one.holds
        ∙ sym (value_word_reply d.places v.graph value_read) ∙ ap word_reply (sym meant)

    -- so it is not refused
    got_granted : IsGranted (get_reply m s h i)
    got_granted = subst IsGranted (sym (ap word_reply meant ∙ value_word_reply d.places v.graph value_read)) (value_granted value_read)

    -- What it leaves.
    module _ (gets : GetsAt m n s read.p i h2) where
      abbrev y : TransactionState
      y = gets.transaction

      -- what its word means in memory
      abbrev told : List Record → Option Word
      told rs = meaning (slice_index (fields_at (fold put_record m.words rs) y.area read.p) i)

      left : LeavesOwn m n s records (with_read y h2 (told records)) (with_lock m.locks y locked.Shared read.p)
      left = subst (λ (rs : List Record). LeavesOwn m n s rs (with_read y h2 (told rs)) (with_lock m.locks y locked.Shared read.p)) same gets.left

      abbrev undo : List UndoEntry
      undo = undo_of right.behind t.number

      same_kept : y ≡ kept d.places v t.number undo
      same_kept = let both = sym gets.was ∙ own_is mid d right runs works_behind s t read.active in cc both

      told_is : told records ≡ Some (word_of (place_of d.places v.graph) value_read)
      told_is =
          sym (ap (λ (r : Result Place Refusal). meaning (slice_index (fields_held mid (own m s) r) i)) read.there
          ∙ ap (λ (o : Option TransactionState). meaning (slice_index (fields_held mid o (Ok read.p)) i)) gets.was)
          ∙ meant_there

      kept_so : with_read y h2 (told records) ≡ kept d.places (call v t.number event).view t.number undo
      kept_so =
          ap (with_read y h2) told_is
          ∙ ap (λ (x : TransactionState). with_read x h2 (Some (word_of (place_of d.places v.graph) value_read))) same_kept
          ∙ kept_read d.places v t.number undo h2 value_read
          ∙ ap (λ (o : Option Id). kept d.places (record v { registers = with_referred v.registers h2 (slice_index_or (fields_of v.graph o) i Null) }) t.number undo) (sym one.holds)

      locks_then : AreHeld (with_lock m.locks y locked.Shared read.p) d.places c.g0 (called a s event)
      locks_then =
          let P : TransactionState → Place → Type 0 = λ x q. AreHeld (with_lock m.locks x locked.Shared q) d.places c.g0 (called a s event) in
          let locks = held_used m.locks d.places c.g0 a s t event one.id locked.Shared undo read.active (ap (option_map (in_mode Shared)) one.holds) works_behind.sessions.locks in
          subst (λ (x : TransactionState). P x read.p) (sym same_kept) (subst (P (kept d.places v t.number undo)) one.place locks)

      none : own_at d event ≡ []
      none = ap (λ (o : Option Transaction). call_records (ground d) c.g0 a o event) read.active

      -- it leaves memory as the core is then
      got_goes : Goes n c event
      got_goes =
          let alone = sym (append-nil records) in
          let turns = turns_behind m n c is records [] records alone left in
          let tells = quiet_goes mid n d right works_behind s t event (with_lock m.locks y locked.Shared read.p) (with_read y h2 (told records)) read.active tt refl none turns kept_so locks_then in
          goes_behind n c event tt (passes_behind m n c is records [] records alone left event none tells)

  -- a get is answered as the core answers it, and a handle holds what was read then
  pub get_does : (h i h2 : ℕ) → core_refusal c (Get s h i h2) ≡ get_refusal m s h i h2 → (reply : Reply) → reply ≡ reply_of (get_refusal m s h i h2) (get_reply m s h i)
      → (IsGranted reply → Gets m n s h i h2) → ((why : Refusal) → reply ≡ answer.Refused why → IsAsItWas m n) → Does c (Get s h i h2) reply n
  get_does h i h2 same_refusal reply replied got stayed =
      does c (Get s h i h2) (get_refusal m s h i h2) (get_reply m s h i) reply n same_refusal replied (λ e. got_reply h i h2 (is_read h i h2 same_refusal e))
      (λ e done_it.
      let read = is_read h i h2 same_refusal e in
      let gets = got (subst IsGranted (sym done_it) (got_granted h i h2 read)) in
      let place : read.p ≡ gets.place = let both = sym read.there ∙ gets.held in cc both in
      got_goes h i h2 read (subst (λ (q : Place). GetsAt m n s q i h2) (sym place) gets.gets))
      (λ why e. as_it_was m n c is (stayed why e))
