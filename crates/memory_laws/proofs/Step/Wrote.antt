-- What a write of a transaction leaves of the sessions, on a core after the write's barrier.
use Rattle.std.proofs.Common.{◌≡◌, inl, inr, ℕ, ◌+◌, ◌<◌, List, [], ◌∷◌, length, Option, Some, refl, sym, ap, ◌∙◌, subst}
use Rattle.graph_model.specs.declared.id.Id.{Id}
use Rattle.graph_model.specs.declared.val.Val.{Val}
use Rattle.graph_model.specs.declared.event.Event.{Event}
use Rattle.graph_model.specs.Graph.{fields, with_field}
use Rattle.graph_model.specs.Locking.{Exclusive, IsFree, lock_of, locks_of}
use Rattle.graph_model.specs.Transaction.{Transaction, View, IsCall, held, put_value, call, serial}
use Rattle.graph_model.specs.History.{Account, account, session_of}
use Rattle.graph_model.specs.Plain.{view}
use Rattle.log_records.specs.declared.Record.{Record}
use Rattle.log_records.specs.declared.Record.TheVariants.{Update}
use Rattle.log_machine.specs.declared.UndoEntry.{UndoEntry}
use Rattle.log_machine.specs.Machine.{State, undo_of}
use Rattle.log_machine.proofs.MachineLaws.{undo_with as machine_undo_with}
use Rattle.log_machine.specs.UndoEntry.{undo_entry}
use Rattle.object_locks.specs.declared.holding.Mode.TheVariants as locked
use Rattle.txn_table.specs.declared.place.Place.{Place}
use Rattle.txn_table.specs.declared.place.Place.TheVariants.{Stable, Volatile}
use Rattle.txn_table.specs.Table.{TransactionState}
use Rattle.graph_words.proofs.Area.Made.{own_apart}
use Rattle.graph_words.specs.Places.{IsOwn, IsVisible, address_of, index_of, place_of, bits_of}
use Rattle.graph_words.proofs.Places.Addresses.{some_address}
use Rattle.heap_model.specs.Core.{Core, all_records, all_words, view_records}
use Rattle.core_laws.proofs.Step.Goes.{writing_of}
use Rattle.core_laws.proofs.Sessions.OtherWrites.{undo_other}
use Rattle.core_laws.proofs.Sessions.Actives.{called}
use Rattle.core_laws.proofs.Step.GrantedWrites.{writes_at}
use Rattle.core_laws.proofs.Step.Told.{IsWriteAt, write_told}
use Rattle.core_laws.specs.Valid.{IsValid, RunsLocked}
use Rattle.commit_order.proofs.OrderLaws.{two_phase_ordered}
use Rattle.heap_model.proofs.Step.Granted.{stable_records, own_records}
use Rattle.heap_model.proofs.Opening.Told.{entry_of, update_of, written}
use Rattle.heap_memory.specs.Memory.{Memory, own}
use Rattle.heap_memory.specs.Leaves as memory
use Rattle.heap_memory.specs.Leaves.{with_lock, with_written}
use Rattle.memory_laws.specs.CoreMemory.{place_in, kept, AreHeld}
use Rattle.memory_laws.proofs.Kept.Held.{IsBlack, place_in-placed, place_in-apart}
use Rattle.memory_laws.proofs.Kept.Locks.{held_used}
use Rattle.memory_laws.proofs.Kept.Parts.{TurnsOwn, Works}
use Rattle.memory_laws.proofs.Step.Appended.{LeavesOthers, Tells, call_goes, own_at, quiet_goes}
use Rattle.memory_laws.proofs.Step.Held.{IsHeld, own_is}
use Rattle.memory_laws.proofs.Kept.Writes.{kept_write, kept_own_write}

-- A word was put into a field of the object at a place, where its barrier was passed before.
pub record WritesOwn (old new : Memory) (s : ℕ) (p : Place) (i w : ℕ) : Type 0 where
  pub transaction : TransactionState
  pub was : own old s ≡ Some transaction
  pub left : TurnsOwn old new s (memory.write_records old.words transaction p i w) (with_written old.words transaction p i w) (with_lock old.locks transaction locked.Exclusive p)

module _ (m n : Memory) (c : Core) (valid : IsValid c) (runs : RunsLocked c.g0 c.first c.history) (is : Works m (account c.history) c) (s : ℕ) where
  -- what the history says
  abbrev a : Account
  a = account c.history

  -- the state after all records
  abbrev behind : State
  behind = valid.behind

  -- all words
  abbrev now : List ℕ
  now = all_words c

  -- A write of a value into field i of the object that handle h holds, by the session's transaction: no other transaction holds that object, and
  -- it isn't gray.
  pub record IsWrite (event : Event) (h i : ℕ) (x : Val) : Type 0 where
    pub t : Transaction
    pub active : a.active s ≡ Some t
    pub called_it : IsCall event
    pub session : session_of event ≡ s
    pub sees : (call (view c.g0 a t) t.number event).view ≡ record (view c.g0 a t) { graph = put_value (view c.g0 a t).graph (held (view c.g0 a t).registers h) i x }
    pub appends : own_at c event ≡ view_records c.places t.number (view c.g0 a t) h i x
    pub p : Place
    pub one : IsHeld c.places (view c.g0 a t) t.number h p
    pub within : i < length (fields (view c.g0 a t).graph one.id)
    pub seen : IsVisible c.places t.number (view c.g0 a t).made x
    pub free : IsFree c.g0 a t.number (Some (one.id, Exclusive))
    pub black : IsBlack c.places behind.collection one.id
    pub writes : WritesOwn m n s p i (bits_of (place_of c.places (view c.g0 a t).graph) x)
    pub needs : lock_of (view c.g0 a t).registers event ≡ Some (one.id, Exclusive)

  module _ (event : Event) (h i : ℕ) (x : Val) (write : IsWrite event h i x) where
    -- the transaction that writes
    abbrev t : Transaction
    t = write.t

    -- what it sees
    abbrev v : View
    v = view c.g0 a t

    -- its writes that may be taken back
    abbrev undo : List UndoEntry
    undo = undo_of behind t.number

    -- the object that it writes into
    abbrev id : Id
    id = write.one.id

    -- the word that it writes
    abbrev w : ℕ
    w = bits_of (place_of c.places v.graph) x

    -- what the locks are then, where the object stands there
    locks_at : (q : Place) → place_in c.places v.graph id ≡ q → AreHeld (with_lock m.locks (kept c.places v t.number undo) locked.Exclusive q) c.places c.g0 (called a s event)
    locks_at q stands =
        subst (λ (r : Place). AreHeld (with_lock m.locks (kept c.places v t.number undo) locked.Exclusive r) c.places c.g0 (called a s event)) stands
        (held_used m.locks c.places c.g0 a s t event id locked.Exclusive undo write.active write.needs is.sessions.locks)

    -- what is kept of the transaction
    same_transaction : write.writes.transaction ≡ kept c.places v t.number undo
    same_transaction = let both = sym write.writes.was ∙ own_is m c valid runs is s t write.active in cc both

    -- and what the write leaves
    left_at : (q : Place) → place_in c.places v.graph id ≡ q
        → TurnsOwn m n s (memory.write_records now (kept c.places v t.number undo) q i w) (with_written now (kept c.places v t.number undo) q i w) (with_lock m.locks (kept c.places v t.number undo) locked.Exclusive q)
    left_at q stands =
        let y = write.writes.transaction in
        let L : List ℕ → TransactionState → Place → Type 0 = λ ws z r. TurnsOwn m n s (memory.write_records ws z r i w) (with_written ws z r i w) (with_lock m.locks z locked.Exclusive r) in
        subst (λ (r : Place). L now (kept c.places v t.number undo) r) (sym write.one.place ∙ stands)
        (subst (λ (z : TransactionState). L now z write.p) same_transaction (subst (λ (ws : List ℕ). L ws y write.p) is.words write.writes.left))

    -- it sees the value in the field then
    sees_field : (call v t.number event).view ≡ record v { graph = with_field v.graph id i x }
    sees_field = write.sees ∙ ap (λ (o : Option Id). record v { graph = put_value v.graph o i x }) write.one.holds

    -- a write into an object that the transaction made leaves memory as the core is then
    own_wrote : IsOwn t.number v.made id → Tells n c event
    own_wrote own =
        let has = (writing_of a c s t write.active valid).made in
        let q : Place = Volatile (index_of v.graph id) in
        let there = place_in-apart c.places v.graph id (own_apart has own) in
        quiet_goes m n c valid is s t event m.locks (with_written now (kept c.places v t.number undo) q i w) write.active write.called_it write.session
        (write.appends ∙ own_records c.places t.number v.made v h i x id write.one.holds has own) (left_at q there)
        (sym (kept_own_write c.places v t.number undo id i x own write.within now) ∙ ap (λ (u : View). kept c.places u t.number undo) (sym sees_field)) (locks_at q there)

    -- what the write of a field replaces
    abbrev entry : ℕ → UndoEntry
    entry at = entry_of c.places v.graph id at i

    -- the state after it
    abbrev later : ℕ → State
    later at = written behind t.number (entry at)

    -- it is one that the records can encode
    write_at : (at : ℕ) → address_of c.places id ≡ Some at
        → IsWriteAt c.pages c.first_number c.born c.places c.remaining (serial c.g0 a.sealed) v (c.before + length a.sealed) t.number (locks_of (serial c.g0 a.sealed) t) (all_records c) now behind id at i x
    write_at at place = writes_at a c valid (two_phase_ordered c.g0 c.history runs.plain runs.two_phase) s t write.active id at i x place write.within write.seen write.free (write.black at place i)

    -- it is no write of another session's transaction
    leaves_others : (at : ℕ) → LeavesOthers m n c valid is s (later at)
    leaves_others at r u other also =
        let beside = (two_phase_ordered c.g0 c.history runs.plain runs.two_phase).beside s r t u (λ same. other (sym same)) write.active also in
        undo_other behind t.number u.number (entry at ∷ undo) 0 beside.differ

    -- so does one into an object that stands in the space
    stable_wrote : (at : ℕ) → address_of c.places id ≡ Some at → Tells n c event
    stable_wrote at place =
        let one = write_at at place in
        let there = place_in-placed c.places v.graph id at place in
        let told = write_told c.pages c.first_number c.born c.places c.remaining (serial c.g0 a.sealed) v (c.before + length a.sealed) t.number (locks_of (serial c.g0 a.sealed) t) (all_records c) now behind id at i x one in
        let locks = with_lock m.locks (kept c.places v t.number undo) locked.Exclusive (Stable at) in
        let L : ℕ → Type 0 = λ z. TurnsOwn m n s (Update t.number at i z w ∷ []) (kept c.places v t.number (undo_entry at i z ∷ undo)) locks in
        let left = subst L one.was (left_at (Stable at) there) in
        let again : undo_of (later at) t.number ≡ entry at ∷ undo = machine_undo_with behind.undo t.number (entry at ∷ undo) in
        call_goes m n c valid is s t event (update_of c.places v.graph t.number id at i x ∷ []) (later at) locks (kept c.places v t.number (entry at ∷ undo)) write.active write.called_it write.session
        (write.appends ∙ stable_records c.places t.number v h i x id at write.one.holds place) left told.reached refl refl (leaves_others at)
        (ap (kept c.places v t.number) (sym again) ∙ sym (kept_write c.places v t.number (undo_of (later at) t.number) id at i x one.writing.made place)
        ∙ ap (λ (u : View). kept c.places u t.number (undo_of (later at) t.number)) (sym sees_field)) (locks_at (Stable at) there)

    -- the records of the write in memory
    abbrev recorded_at : Place → List Record
    recorded_at q = memory.write_records now (kept c.places v t.number undo) q i w

    recorded : (q : Place) → place_in c.places v.graph id ≡ q → memory.write_records m.words write.writes.transaction write.p i w ≡ recorded_at q
    recorded q stands =
        let y = write.writes.transaction in
        ap (λ (ws : List ℕ). memory.write_records ws y write.p i w) is.words
        ∙ ap (λ (z : TransactionState). memory.write_records now z write.p i w) same_transaction
        ∙ ap recorded_at (sym write.one.place ∙ stands)

    -- they are the core's
    pub own_same : own_at c event ≡ memory.write_records m.words write.writes.transaction write.p i w
    own_same = elim (write.one.at_hand) [
      | inl there ↦
          let place = some_address (address_of c.places id) there in
          write.appends ∙ stable_records c.places t.number v h i x id place.0 write.one.holds place.1
          ∙ sym (ap (λ (z : ℕ). Update t.number place.0 i z w ∷ []) (write_at place.0 place.1).was)
          ∙ sym (recorded (Stable place.0) (place_in-placed c.places v.graph id place.0 place.1))
      | inr own ↦
          let has = (writing_of a c s t write.active valid).made in
          write.appends ∙ own_records c.places t.number v.made v h i x id write.one.holds has own
          ∙ sym (recorded (Volatile (index_of v.graph id)) (place_in-apart c.places v.graph id (own_apart has own)))
    ]

    -- so does each
    pub wrote : Tells n c event
    wrote = elim (write.one.at_hand) [
      | inl there ↦ let place = some_address (address_of c.places id) there in stable_wrote place.0 place.1
      | inr own ↦ own_wrote own
    ]
