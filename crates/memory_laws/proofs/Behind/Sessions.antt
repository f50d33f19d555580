-- Memory after records of a collection is that of the core after them: transactions and locks stay as they are.
use Rattle.std.proofs.Common.{◌≡◌, inl, inr, ℕ, List, ◌++◌, Option, None, Some, refl, sym, ap, ◌∙◌, subst, append_assoc}
use Rattle.std.specs.Prelude.{fold}
use Rattle.std.specs.FinMap.{FinMap}
use Rattle.std.specs.Ordering.{nat_cmp}
use Rattle.std.proofs.lemmas.List.Sums.{fold-append}
use Rattle.gated_log.specs.Log.{records_of}
use Rattle.graph_model.specs.History.{Account, account}
use Rattle.graph_model.specs.Locking.{Lock, locks_of}
use Rattle.graph_model.specs.Plain.{view}
use Rattle.graph_model.specs.Transaction.{Transaction, serial}
use Rattle.heap_spaces.specs.Collection.{Collection}
use Rattle.heap_spaces.specs.Spaces.{SpacesState}
use Rattle.log_records.specs.declared.Record.{Record}
use Rattle.log_machine.specs.declared.UndoEntry.{UndoEntry}
use Rattle.log_machine.specs.Machine.{State, after_all, put_record, undo_in, undo_of}
use Rattle.log_machine.proofs.MachineLaws.{after_all-append2}
use Rattle.object_locks.specs.declared.holding.Holding.{Holding}
use Rattle.object_locks.specs.Holdings.{Holdings}
use Rattle.txn_table.specs.Table.{TableState, TransactionState, transaction_of}
use Rattle.graph_words.specs.Places.{address_of, made_by}
use Rattle.graph_words.proofs.Places.Addresses.{none_or_some}
use Rattle.collection_words.specs.Placing.{Placing, moved_by_all}
use Rattle.heap_model.specs.Core.{Core, all_records, all_words, ground, log_start, moved, placing, state_behind}
use Rattle.heap_model.proofs.Step.Moved.{moved_is}
use Rattle.core_laws.proofs.Collecting.Carried.{none_joined}
use Rattle.core_laws.proofs.Collecting.Entries.{all_at}
use Rattle.core_laws.proofs.Step.Goes.{writing_of}
use Rattle.core_laws.specs.Valid.{IsValid}
use Rattle.heap_memory.specs.Memory.{Memory}
use Rattle.heap_memory.specs.Leaves.{Leaves}
use Rattle.heap_memory.specs.Collecting.{collection_behind, spaces_behind}
use Rattle.memory_laws.specs.CoreMemory.{AreHeld, AreSessions, IsHeld, IsMemory, kept, kept_of, mode_of}
use Rattle.memory_laws.proofs.Behind.Passed.{HavePassed}
use Rattle.memory_laws.proofs.Kept.Beside.{GoesOn, kept_on}
use Rattle.memory_laws.proofs.Kept.Locks.{as_held, of_held}
use Rattle.memory_laws.proofs.Kept.Parts.{Works, disk_left, whole_of, works_of}
use Rattle.memory_laws.proofs.Step.Appended.{collection_here, ground_in, own_kept, spaces_here}

-- the core after records of a collection
abbrev pub core_behind : Core → List Record → Core
core_behind c records =
    let there = moved_by_all (placing c) records in
    record c { pending = c.pending ++ records; places = there.places; remaining = there.remaining }

-- memory with their effect, but for the log and the pages' LSNs
abbrev pub memory_behind : Memory → List Record → Memory
memory_behind m records = record m {
  words = fold put_record m.words records;
  spaces = spaces_behind m.spaces records;
  collection = collection_behind m.collection records;
}

module _ (m : Memory) (c : Core) (valid : IsValid c) (is : Works m (account c.history) c) (records : List Record) (passed : HavePassed c valid.behind records) where
  -- what the history says
  abbrev a : Account
  a = account c.history

  -- the state after all records, and that after these
  abbrev behind : State
  behind = valid.behind

  abbrev next : State
  next = passed.next

  -- where objects are then
  abbrev there : Placing
  there = moved_by_all (placing c) records

  abbrev d : Core
  d = core_behind c records

  pub reached_behind : state_behind c (all_records d) ≡ Some next
  reached_behind =
      ap (after_all (log_start c)) (sym (append_assoc (records_of c.batches) c.pending records))
      ∙ after_all-append2 (log_start c) behind (all_records c) records valid.told.reached
      ∙ passed.passes

  -- What is kept of a transaction stays.

  goes_on : (r : ℕ) (u : Transaction) → a.active r ≡ Some u → GoesOn c.places there.places (view c.g0 a u) (view c.g0 a u) u.number
  goes_on r u active =
      let w = writing_of a c r u active valid in
      record {
        has = w.made;
        handles = w.handles;
        registers = refl;
        made = refl;
        grown = passed.kept;
        apart = λ k. passed.fewer (made_by u.number k) (none_joined c.places c.remaining (made_by u.number k) (w.made.apart k) (w.apart k));
        own = λ k first last. refl;
      }

  stays_kept : (r : ℕ) (u : Transaction) → a.active r ≡ Some u → kept c.places (view c.g0 a u) u.number (undo_of behind u.number) ≡ kept there.places (view c.g0 a u) u.number (undo_of next u.number)
  stays_kept r u active =
      sym (kept_on c.places there.places (view c.g0 a u) (view c.g0 a u) u.number (goes_on r u active) (undo_of behind u.number))
      ∙ ap (λ (undo : FinMap nat_cmp (List UndoEntry)). kept there.places (view c.g0 a u) u.number (undo_in undo u.number)) (sym passed.undo)

  kept_then : (r : ℕ) (o : Option Transaction) → a.active r ≡ o → kept_of (ground_in c c.places behind) c.g0 a o ≡ kept_of (ground_in c there.places next) c.g0 a o
  kept_then r None active = refl
  kept_then r (Some u) active = ap (λ (x : TransactionState). Some x) (stays_kept r u active)

  -- Locks are on the same objects, which are where they were.

  -- no locked object was left to be copied
  left_unlocked : (h : Holding) (x : IsHeld there.places c.g0 a h) → address_of c.remaining x.id ≡ None
  left_unlocked h x =
      let w = writing_of a c x.session x.transaction x.active valid in
      all_at (λ (l : Lock). address_of c.remaining l.0 ≡ None) (locks_of (serial c.g0 a.sealed) x.transaction) (x.id, mode_of h.mode) w.unlocked x.lock

  was_placed : (h : Holding) (x : IsHeld there.places c.g0 a h) → address_of c.places x.id ≡ Some h.key.address
  was_placed h x = elim (none_or_some (address_of c.places x.id)) [
    | inl none ↦ let clash = sym (passed.fewer x.id (none_joined c.places c.remaining x.id none (left_unlocked h x))) ∙ x.place in cc
    | inr was ↦ was.1 ∙ sym (passed.kept x.id was.0 was.1) ∙ x.place
  ]

  pub held_behind : AreHeld m.locks there.places c.g0 a
  held_behind h = (
    λ locked. let x = (is.sessions.locks h).0 locked in as_held there.places c.g0 a h x.id (passed.kept x.id h.key.address x.place) (of_held c.places c.g0 a h x),
    λ x. (is.sessions.locks h).1 (as_held c.places c.g0 a h x.id (was_placed h x) (of_held there.places c.g0 a h x)),
  )

  -- The sessions in memory are then the core's.
  pub sessions_behind : AreSessions (spaces_behind m.spaces records) (collection_behind m.collection records) m.table m.locks m.sealed (ground d) c.g0 c.first a
  sessions_behind = record {
    state = next;
    reached = reached_behind;
    spaces = ap (λ (x : SpacesState). spaces_behind x records) (spaces_here m m c valid is) ∙ passed.spaces.spaces;
    collection = ap (λ (o : Option Collection). collection_behind o records) (collection_here m m c valid is) ∙ passed.spaces.collection;
    transactions = λ r. own_kept m m c valid is r ∙ kept_then r (a.active r) refl
        ∙ ap (λ (o : Option State). kept_of (record { places = there.places; remaining = there.remaining; words = all_words d; state = o }) c.g0 a (a.active r)) (sym reached_behind);
    locks = held_behind;
    next = is.sessions.next;
    sealed = is.sessions.sealed;
  }

  -- so the words and the sessions with the records' effect are
  pub works_behind : Works (memory_behind m records) a d
  works_behind = record {
    words = ap (λ (ws : List ℕ). fold put_record ws records) is.words ∙ sym (fold-append put_record c.words c.pending records);
    sessions = sessions_behind;
  }

-- Memory in which records of a collection were carried out is that of the core after them.
pub carried_out : (m n : Memory) (c : Core) (valid : IsValid c) → IsMemory m (account c.history) c → (records : List Record) → HavePassed c valid.behind records
    → Leaves m n records m.table m.locks (spaces_behind m.spaces records) (collection_behind m.collection records) m.sealed → IsMemory n (account c.history) (moved c records)
carried_out m n c valid is records passed left =
    let a = account c.history in
    let there = moved_by_all (placing c) records in
    let sessions = sessions_behind m c valid (works_of m a c is) records passed in
    let now : AreSessions n.spaces n.collection n.table n.locks n.sealed (ground (core_behind c records)) c.g0 c.first a = record {
      state = sessions.state;
      reached = sessions.reached;
      spaces = left.spaces ∙ sessions.spaces;
      collection = left.collection ∙ sessions.collection;
      transactions = λ r. ap (λ (table : TableState). transaction_of table r) left.table ∙ sessions.transactions r;
      locks = subst (λ (held : Holdings). AreHeld held there.places c.g0 a) (sym left.locks) sessions.locks;
      next = ap (λ (table : TableState). table.next) left.table ∙ sessions.next;
      sealed = left.sealed ∙ sessions.sealed;
    } in
    subst (λ (d : Core). IsMemory n a d) (sym (moved_is c records)) (whole_of n a (core_behind c records) (disk_left m n a c records there.places there.remaining is left) now)
