-- The log in memory has room for a read and for a write, with the scan before it, as a core's has.
use Rattle.std.proofs.Common.{◌≡◌, inl, inr, ℕ, ◌+◌, ◌<◌, ◌≤◌, List, [], ◌∷◌, ◌++◌, length, Option, None, Some, refl, sym, ap, ◌∙◌, arith}
use Rattle.std.specs.Prelude.{sum_by}
use Rattle.std.specs.FinMap.{FinMap}
use Rattle.std.specs.Ordering.{nat_cmp}
use Rattle.std.proofs.lemmas.Option.{same_Some}
use Rattle.graph_model.specs.declared.event.Event.{Event}
use Rattle.graph_model.specs.declared.id.Id.{Id}
use Rattle.graph_model.specs.declared.val.Val.{Val}
use Rattle.graph_model.specs.Graph.{fields}
use Rattle.graph_model.specs.History.{Account, account, session_of, sessions}
use Rattle.graph_model.specs.Plain.{view}
use Rattle.graph_model.specs.Transaction.{Transaction, View, IsCall, held}
use Rattle.commit_order.proofs.OrderLaws.{two_phase_ordered}
use Rattle.heap_spaces.specs.Spaces.{SpacesState}
use Rattle.log_records.specs.declared.Record.{Record}
use Rattle.log_records.specs.Record.{spellings}
use Rattle.log_machine.specs.declared.UndoEntry.{UndoEntry}
use Rattle.log_machine.specs.UndoEntry.{LiesInside}
use Rattle.log_machine.specs.Machine.{State, after_all, spaces_of, undo_bytes, undo_in, undo_of}
use Rattle.log_machine.proofs.MachineLaws as machine
use Rattle.log_machine.proofs.MachineLaws.{after-Update, after_all-append, after_all-append2, inside_from}
use Rattle.gated_log.specs.LogState.{log_room, log_used, log_need}
use Rattle.graph_words.specs.Places.{Places, address_of, bits_of, place_of}
use Rattle.graph_words.proofs.Area.Made.{own_apart}
use Rattle.graph_words.proofs.Places.Addresses.{some_address}
use Rattle.graph_words.proofs.Stands.Visible.{place_of-apart}
use Rattle.collection_words.proofs.Laid.Within.{placed_within}
use Rattle.heap_model.specs.Core.{Core, log_start, all_records, undo_with, undo_behind, state_behind, update, view_records, write_records, barrier_records, own_records, event_records, ground, need, kept_for, records_for, reserved, reserved_after, log_refusal, used}
use Rattle.heap_model.proofs.Step.Goes.{need_nothing}
use Rattle.heap_model.proofs.Step.Granted.{stable_records}
use Rattle.heap_model.proofs.Step.Handles.{held_at_hand}
use Rattle.heap_model.proofs.Step.Moved.{moved_is}
use Rattle.heap_model.proofs.Step.Room.{full_log-room}
use Rattle.heap_model.proofs.Opening.Told.{entry_of, update_of, written}
use Rattle.core_laws.proofs.Collecting.Carried.{none_joined}
use Rattle.core_laws.proofs.Step.Goes.{numbered_as, writing_of}
use Rattle.core_laws.proofs.Step.Granted.{HasRoom}
use Rattle.core_laws.proofs.Sessions.Apart.{object_now}
use Rattle.core_laws.proofs.Sessions.OtherWrites.{undo_other}
use Rattle.core_laws.proofs.Step.Reserved.{reserved_but}
use Rattle.core_laws.proofs.Step.Events.{kept_still}
use Rattle.core_laws.specs.Valid.{IsValid, RunsLocked}
use Rattle.heap_memory.specs.Memory as memory
use Rattle.heap_memory.specs.Memory.{Memory, kept_for_end}
use Rattle.heap_memory.specs.Collecting as collecting
use Rattle.heap_memory.specs.Refusals.{no_room, records_room, write_room}
use Rattle.txn_table.specs.declared.place.Place.{Place}
use Rattle.txn_table.specs.declared.place.Place.TheVariants.{Stable, Volatile}
use Rattle.memory_laws.specs.CoreMemory.{place_in, kept_of, IsMemory}
use Rattle.memory_laws.proofs.Behind.Passed.{HavePassed}
use Rattle.memory_laws.proofs.Behind.Sessions.{core_behind}
use Rattle.memory_laws.proofs.Behind.Spaces.{spaces_grow}
use Rattle.memory_laws.proofs.Kept.Held.{place_in-placed, place_in-apart}
use Rattle.memory_laws.proofs.Kept.Log.{length_spellings, need_all, need_more, need_records, used_same}
use Rattle.memory_laws.proofs.Refusal.Room.{KeepsReserve, call_keeps, full_same, still_room}
use Rattle.memory_laws.proofs.Step.Appended.{own_at}

-- what is kept of a transaction keeps as much of the log as the core does
kept_end : (c : Core) (a : Account) (o : Option Transaction) → kept_for_end (kept_of (ground c) c.g0 a o) ≡ kept_for (undo_behind c (all_records c)) o
kept_end c a None = refl
kept_end c a (Some t) = refl

-- so memory keeps as much for the ends of all transactions
pub reserved_kept : (m : Memory) (c : Core) (a : Account) → IsMemory m a c → memory.reserved m.table ≡ reserved (undo_behind c (all_records c)) a
reserved_kept m c a is = ap (λ (f : ℕ → ℕ). sum_by f sessions) (λ i s. (ap kept_for_end (is.sessions.transactions s) ∙ kept_end c a (a.active s)) i)

-- where the state after all records is known
pub reserved_now : (m : Memory) (c : Core) (valid : IsValid c) → IsMemory m (account c.history) c → memory.reserved m.table ≡ reserved (undo_of valid.behind) (account c.history)
reserved_now m c valid is =
    let a = account c.history in
    reserved_kept m c a is ∙ ap (λ (o : Option State). reserved (undo_with o) a) valid.told.reached

-- what is kept for a transaction does not depend on the writes of others
pub kept_beside : (undo later : ℕ → List UndoEntry) (o : Option Transaction) → ((t : Transaction) → o ≡ Some t → later t.number ≡ undo t.number) → kept_for undo o ≡ kept_for later o
kept_beside undo later None same = refl
kept_beside undo later (Some t) same = sym (ap undo_bytes (same t refl))

-- a write into an object that does not stand in the current space appends none
apart_records : (places : Places) (t : ℕ) (v : View) (hd i : ℕ) (x : Val) (id : Id) → held v.registers hd ≡ Some id → address_of places id ≡ None → view_records places t v hd i x ≡ []
apart_records places t v hd i x id holds none =
    ap (λ (o : Option Id). write_records (place_of places v.graph) t v.graph o i x) holds
    ∙ ap (λ w. update (place_of places v.graph) t w (fields v.graph id) i x) (place_of-apart places v.graph id none)

-- What an event appends of its own, by the core after its barrier.
pub own_behind : (c : Core) (event : Event) → own_records c event ≡ own_at (core_behind c (barrier_records c event)) event
own_behind c event = ap (λ (b : Core). records_for (ground b) c.g0 (account c.history) event) (moved_is c (barrier_records c event))

module _ (m : Memory) (c : Core) (valid : IsValid c) (is : IsMemory m (account c.history) c) where
  -- what the history says
  abbrev a : Account
  a = account c.history

  -- the state after all records
  abbrev behind : State
  behind = valid.behind

  -- the log has a core's room for these records, where `kept` bytes are kept after them
  pub full_for : (event : Event) (need_bytes kept : ℕ) → need c.pending (event_records c event) ≡ need_bytes → reserved_after c event ≡ kept → log_refusal c event ≡ no_room m.log need_bytes kept
  full_for event need_bytes kept needs keeps =
      full_same c.room (log_room m.log) (used c) (log_used m.log) (need c.pending (event_records c event)) need_bytes (reserved_after c event) kept
      (sym is.room) (sym (used_same m.log c.batches c.pending is.log)) needs keeps

  -- Records of a collection change nothing of what is kept for the ends of transactions.
  module _ (records : List Record) (passed : HavePassed c behind records) where
    passed_reached : state_behind c (all_records c ++ records) ≡ Some passed.next
    passed_reached = after_all-append2 (log_start c) behind (all_records c) records valid.told.reached ∙ passed.passes

    pub passed_kept : (b : Account) → reserved (undo_behind c (all_records c ++ records)) b ≡ reserved (undo_of behind) b
    passed_kept b =
        ap (λ (o : Option State). reserved (undo_with o) b) passed_reached
        ∙ ap (λ (undo : FinMap nat_cmp (List UndoEntry)). reserved (undo_in undo) b) passed.undo

  -- so the log has room for them where it has for more
  room_for : (records : List Record) → HavePassed c behind records → (n kept : ℕ) → length (spellings records) ≤ n → memory.reserved m.table ≤ kept → no_room m.log (log_need m.log n) kept ≡ None → HasRoom c records a
  room_for [] passed n kept few more fits =
      let nothing = need_nothing c.pending in
      let same = kept_still c a valid in
      let room = valid.room in
      omega arith
  room_for (r ∷ rs) passed n kept few more fits =
      let size = need_all m.log c.batches c.pending r rs is.log in
      let up = need_more m.log (length (spellings (r ∷ rs))) n few in
      let full = full_log-room (log_room m.log) (log_used m.log) (log_need m.log n) kept fits in
      let used_up = used_same m.log c.batches c.pending is.log in
      let same = passed_kept (r ∷ rs) passed a in
      let now = reserved_now m c valid is in
      let room = is.room in
      omega arith

  no_records : HasRoom c [] a
  no_records =
      let nothing = need_nothing c.pending in
      let same = kept_still c a valid in
      let room = valid.room in
      omega arith

  -- a read that the log has room for has it for the scan before it
  pub read_has_room : (records : List Record) → HavePassed c behind records → records_room m records ≡ None → HasRoom c records a
  read_has_room [] passed fits = no_records
  read_has_room (r ∷ rs) passed fits = room_for (r ∷ rs) passed (length (spellings (r ∷ rs))) (memory.reserved m.table) (omega arith) (omega arith) fits

  -- so has a write
  pub write_has_room : (p : Place) (i : ℕ) (records : List Record) → HavePassed c behind records → collecting.place_barrier m p i ≡ records → write_room m p i ≡ None → HasRoom c records a
  write_has_room (Volatile at) i [] passed same fits = no_records
  write_has_room (Volatile at) i (r ∷ rs) passed same fits = absurd (cc same)
  write_has_room (Stable at) i records passed same fits =
      let long = ap (λ (l : List Record). length (spellings l)) same in
      room_for records passed (length (spellings (collecting.barrier_records m at i)) + 27) (memory.reserved m.table + 19) (omega arith) (omega arith) fits

  -- An event that appends nothing but records of a collection that runs finds the room that memory finds.
  pub scan_room : (event : Event) (records : List Record) → KeepsReserve c event → HavePassed c behind records → event_records c event ≡ records → log_refusal c event ≡ records_room m records
  scan_room event [] keeps passed appends = still_room c event valid keeps appends
  scan_room event (r ∷ rs) keeps passed appends =
      full_for event (log_need m.log (length (spellings (r ∷ rs)))) (memory.reserved m.table)
      (ap (need c.pending) appends ∙ sym (need_all m.log c.batches c.pending r rs is.log))
      (keeps (undo_behind c (all_records c ++ event_records c event))
      ∙ ap (λ (l : List Record). reserved (undo_behind c (all_records c ++ l)) a) appends
      ∙ passed_kept (r ∷ rs) passed a
      ∙ sym (reserved_now m c valid is))

  -- So does a write.
  module _ (runs : RunsLocked c.g0 c.first c.history) (s : ℕ) (t : Transaction) (active : a.active s ≡ Some t) (event : Event) (call : IsCall event) (one : session_of event ≡ s)
      (h i : ℕ) (x : Val) (id : Id) (holds : held (view c.g0 a t).registers h ≡ Some id) (within : i < length (fields (view c.g0 a t).graph id))
      (passed : HavePassed c behind (barrier_records c event))
      (appends : own_at (core_behind c (barrier_records c event)) event ≡ view_records (core_behind c (barrier_records c event)).places t.number (view c.g0 a t) h i x)
      (scans : collecting.place_barrier m (place_in c.places (view c.g0 a t).graph id) i ≡ barrier_records c event) where
    -- what the transaction sees
    abbrev v : View
    v = view c.g0 a t

    abbrev records : List Record
    records = barrier_records c event

    abbrev d : Core
    d = core_behind c records

    abbrev next : State
    next = passed.next

    -- Into an object that stands in the current space.
    module _ (at : ℕ) (place : address_of c.places id ≡ Some at) where
      -- the record of the write, and what it replaces
      abbrev rec : Record
      rec = update_of d.places v.graph t.number id at i x

      abbrev entry : UndoEntry
      entry = entry_of d.places v.graph id at i

      lies : LiesInside next.base next.used entry
      lies =
          let o = two_phase_ordered c.g0 c.history runs.plain runs.two_phase in
          let stands = placed_within valid.told.heap.laid id at place in
          let same = same_Some stands.fields (length (fields v.graph id)) (sym stands.object ∙ object_now a c valid o s t active id at place) in
          let above = stands.above in
          let below = stands.below in
          let grown = spaces_grow (spaces_of behind) records in
          let base : next.base ≡ behind.base = sym (ap (λ (y : SpacesState). y.base) passed.spaces.spaces) ∙ grown.base in
          let used : next.used ≡ (collecting.spaces_behind (spaces_of behind) records).used = sym (ap (λ (y : SpacesState). y.used) passed.spaces.spaces) in
          let more = grown.used in
          record { above = omega arith; below = omega arith }

      follows : after_all behind (records ++ rec ∷ []) ≡ Some (written next t.number entry)
      follows =
          after_all-append behind next records rec passed.passes
          ∙ after-Update next t.number at i entry.was (bits_of (place_of d.places v.graph) x) (numbered_as a c s t active valid) (inside_from next entry lies)

      -- the bytes of one more write are kept
      more_kept : reserved (undo_of behind) a + 19 ≡ reserved (undo_of (written next t.number entry)) a
      more_kept =
          let o = two_phase_ordered c.g0 c.history runs.plain runs.two_phase in
          let undo = undo_of next t.number in
          let before : undo ≡ undo_of behind t.number = ap (λ (u : FinMap nat_cmp (List UndoEntry)). undo_in u t.number) passed.undo in
          let long : length undo ≡ length (undo_of behind t.number) = ap (λ (us : List UndoEntry). length us) before in
          let more : undo_of (written next t.number entry) t.number ≡ entry ∷ undo = machine.undo_with next.undo t.number (entry ∷ undo) in
          let was : kept_for (undo_of behind) (a.active s) ≡ undo_bytes (undo_of behind t.number) = ap (kept_for (undo_of behind)) active in
          let now : kept_for (undo_of (written next t.number entry)) (a.active s) ≡ undo_bytes (entry ∷ undo) = ap (kept_for (undo_of (written next t.number entry))) active ∙ ap undo_bytes more in
          reserved_but (undo_of behind) (undo_of (written next t.number entry)) a a s 19 (valid.in_sessions s t active) (omega arith)
          (λ r other. kept_beside (undo_of behind) (undo_of (written next t.number entry)) (a.active r)
          (λ u also. undo_other next t.number u.number (entry ∷ undo) 0 (o.beside s r t u (λ same. other (sym same)) active also).differ
          ∙ ap (λ (w : FinMap nat_cmp (List UndoEntry)). undo_in w u.number) passed.undo))

      appends_all : event_records c event ≡ records ++ rec ∷ []
      appends_all = ap (λ (l : List Record). records ++ l) (own_behind c event ∙ appends ∙ stable_records d.places t.number v h i x id at holds (passed.kept id at place))

      kept_then : reserved_after c event ≡ memory.reserved m.table + 19
      kept_then =
          let undo = undo_behind c (all_records c ++ event_records c event) in
          let reached : state_behind c (all_records c ++ (records ++ rec ∷ [])) ≡ Some (written next t.number entry) =
          after_all-append2 (log_start c) behind (all_records c) (records ++ rec ∷ []) valid.told.reached ∙ follows in
          call_keeps c event call undo
          ∙ ap (λ (l : List Record). reserved (undo_behind c (all_records c ++ l)) a) appends_all
          ∙ ap (λ (y : Option State). reserved (undo_with y) a) reached
          ∙ sym more_kept
          ∙ ap (λ (k : ℕ). k + 19) (sym (reserved_now m c valid is))

      stable_room : log_refusal c event ≡ write_room m (Stable at) i
      stable_room =
          let scan : collecting.barrier_records m at i ≡ records = ap (λ (p : Place). collecting.place_barrier m p i) (sym (place_in-placed c.places v.graph id at place)) ∙ scans in
          let size : length (spellings (rec ∷ [])) ≡ 27 = refl in
          let long : length (spellings (records ++ rec ∷ [])) ≡ length (spellings (collecting.barrier_records m at i)) + 27 =
          length_spellings records (rec ∷ []) ∙ ap (λ (n : ℕ). length (spellings records) + n) size ∙ ap (λ (l : List Record). length (spellings l) + 27) (sym scan) in
          full_for event (log_need m.log (length (spellings (collecting.barrier_records m at i)) + 27)) (memory.reserved m.table + 19)
          (ap (need c.pending) appends_all ∙ sym (need_records m.log c.batches c.pending records rec is.log) ∙ ap (log_need m.log) long) kept_then

    -- Into the transaction's area.
    apart_room : address_of c.places id ≡ None → address_of d.places id ≡ None → log_refusal c event ≡ None
    apart_room none gone =
        let scan : [] ≡ records = ap (λ (p : Place). collecting.place_barrier m p i) (sym (place_in-apart c.places v.graph id none)) ∙ scans in
        still_room c event valid (call_keeps c event call) (ap (λ (l : List Record). l ++ own_records c event) (sym scan) ∙ own_behind c event ∙ appends ∙ apart_records d.places t.number v h i x id holds gone)

    -- The log has a core's room for a write into an object that a handle holds.
    pub room_same : log_refusal c event ≡ write_room m (place_in c.places v.graph id) i
    room_same =
        let w = writing_of a c s t active valid in
        elim (held_at_hand c.places t.number v.made v.registers h id w.handles holds) [
          | inl there ↦
              let place = some_address (address_of c.places id) there in
              stable_room place.0 place.1 ∙ ap (λ (p : Place). write_room m p i) (sym (place_in-placed c.places v.graph id place.0 place.1))
          | inr own ↦
              let none = own_apart w.made own in
              let left = ap (λ (n : ℕ). address_of c.remaining (record { t = n; k = id.k })) own.maker ∙ w.apart id.k in
              apart_room none (passed.fewer id (none_joined c.places c.remaining id none left))
              ∙ ap (λ (p : Place). write_room m p i) (sym (place_in-apart c.places v.graph id none))
        ]
