-- Memory says which transactions hold a conflicting lock as the model does.
use Rattle.std.proofs.Common.{◌≡◌, inl, inr, ℕ, Bool, true, false, Option, Some, None, refl, sym, ap, ◌∙◌, subst, List}
use Rattle.std.specs.Prelude.{◌&&◌, not, ◌==◌}
use Rattle.std.proofs.lemmas.Bool.{and_parts, and_from, eqb-true, eqb-false, ne_eqb, eq-eqb, not-true, not_from_false}
use Rattle.graph_model.specs.declared.id.Id.{Id}
use Rattle.graph_model.proofs.Refusals.Busy.{free_law, busy_law, free_found}
use Rattle.graph_model.specs.Graph.{Graph}
use Rattle.graph_model.specs.History.{Account, AreInSessions, account}
use Rattle.graph_model.specs.Locking.{Mode, Shared, Exclusive, modes_conflict, HoldsLock, IsFree, IsInTheWay, IsBusy, busy_holder}
use Rattle.graph_model.specs.Plain.{busy_with, view}
use Rattle.graph_model.specs.Transaction.{Transaction, View}
use Rattle.commit_order.proofs.PlaceLaws.{made_is_free}
use Rattle.log_machine.specs.declared.UndoEntry.{UndoEntry}
use Rattle.object_locks.specs.declared.holding.Mode as table
use Rattle.object_locks.specs.declared.holding.Mode.TheVariants as locked
use Rattle.object_locks.specs.Conflict as conflict
use Rattle.object_locks.specs.Conflict.{conflicts}
use Rattle.object_locks.proofs.HolderLaws.{find_free, find_least}
use Rattle.object_locks.specs.Holdings as holdings
use Rattle.object_locks.specs.Holdings.{Holdings, IsInConflict, IsLeastInConflict}
use Rattle.txn_table.specs.Table.{TransactionState}
use Rattle.graph_words.proofs.Area.Made.{own_apart}
use Rattle.graph_words.specs.Places.{Places, address_of, IsAtHand}
use Rattle.graph_words.proofs.Places.Addresses.{some_address}
use Rattle.graph_words.proofs.Seal.Places.{address_of-append_left}
use Rattle.graph_words.proofs.Stands.Objects.{stands_one}
use Rattle.collection_words.specs.Completed.{completed_places, future}
use Rattle.heap_model.specs.Core.{Core, all_words}
use Rattle.core_laws.proofs.Step.Goes.{writing_of}
use Rattle.core_laws.specs.Valid.{IsValid, RunsLocked}
use Rattle.heap_memory.specs.Memory.{Memory}
use Rattle.heap_memory.specs.Refusals.{asked, holder_of, lock_refusal}
use Rattle.memory_laws.specs.CoreMemory.{mode_of, AreHeld, kept, place_in}
use Rattle.memory_laws.proofs.Kept.Held.{place_in-placed, place_in-apart}
use Rattle.memory_laws.proofs.Kept.Locks.{as_held, of_held, lock_in}
use Rattle.memory_laws.proofs.Kept.Parts.{Works}

-- a mode of the model, as the table has it
abbrev pub mode_in : Mode → table.Mode
mode_in Shared = locked.Shared
mode_in Exclusive = locked.Exclusive

pub mode_back : (mode : Mode) → mode_of (mode_in mode) ≡ mode
mode_back Shared = refl
mode_back Exclusive = refl

-- modes conflict in the table if they do in the model
conflict_same : (mode other : table.Mode) → conflict.modes_conflict mode other ≡ modes_conflict (mode_of mode) (mode_of other)
conflict_same locked.Shared locked.Shared = refl
conflict_same locked.Shared locked.Exclusive = refl
conflict_same locked.Exclusive locked.Shared = refl
conflict_same locked.Exclusive locked.Exclusive = refl

-- The table holds what the model says, and the objects that have addresses have different ones.
record IsLockTable (locks : Holdings) (places : Places) (g0 : Graph) (a : Account) : Type 0 where
  held : AreHeld locks places g0 a
  one : (id q : Id) (at : ℕ) → address_of places id ≡ Some at → address_of places q ≡ Some at → id ≡ q
  within : AreInSessions a

module _ (locks : Holdings) (places : Places) (g0 : Graph) (a : Account) (all : IsLockTable locks places g0 a) (n : ℕ) (id : Id) (at : ℕ) (mode : table.Mode) (place : address_of places id ≡ Some at) where
  -- a transaction with a conflicting lock in the model has one in the table
  told_busy : (other : ℕ) → IsInTheWay g0 a n (lock_in mode id) other → IsInConflict locks (asked n mode at) other
  told_busy other way =
      let h = asked other (mode_in way.mode) at in
      let holds = subst (HoldsLock g0 a other id) (sym (mode_back way.mode)) way.holds in
      let clash = conflict_same (mode_in way.mode) mode ∙ ap (λ (x : Mode). modes_conflict x (mode_of mode)) (mode_back way.mode) ∙ way.conflicts in (
        h,
        (all.held h).1 (as_held places g0 a h id place holds),
        and_from ((at == at) && not (other == n)) (conflict.modes_conflict (mode_in way.mode) mode)
            (and_from (at == at) (not (other == n)) (eq-eqb at at refl) (not_from_false (other == n) (ne_eqb other n way.differs))) clash,
        refl,
      )

  -- and the other way round
  busy_told : (other : ℕ) → IsInConflict locks (asked n mode at) other → IsInTheWay g0 a n (lock_in mode id) other
  busy_told other way =
      let h = way.0 in
      let x = (all.held h).0 way.1 in
      let here = h.key.address == at in
      let differs = not (h.transaction == n) in
      let parts = and_parts (here && differs) (conflict.modes_conflict h.mode mode) way.2 in
      let both = and_parts here differs parts.0 in
      let same = all.one x.id id at (x.place ∙ ap Some (eqb-true h.key.address at both.0)) place in
      record {
        differs = λ is. eqb-false h.transaction n (not-true (h.transaction == n) both.1) (way.3 ∙ is);
        mode = mode_of h.mode;
        holds = subst (λ k. HoldsLock g0 a k id (mode_of h.mode)) way.3 (subst (λ q. HoldsLock g0 a h.transaction q (mode_of h.mode)) same (of_held places g0 a h x));
        conflicts = sym (conflict_same h.mode mode) ∙ parts.1;
      }

  -- where the model finds no conflicting lock, the table has none
  free_told : IsFree g0 a n (Some (lock_in mode id)) → holdings.MayHold locks (asked n mode at)
  free_told free h there = none (conflicts h (asked n mode at)) refl where
    none : (b : Bool) → conflicts h (asked n mode at) ≡ b → b ≡ false
    none false is = refl
    none true is = absurd (free h.transaction (busy_told h.transaction (h, there, is, refl)))

  -- the least that the model finds is the least in the table
  least_told : (holder : ℕ) → IsBusy g0 a n (lock_in mode id) holder → IsLeastInConflict locks (asked n mode at) holder
  least_told holder busy = record {
    conflicts = told_busy holder busy.in_the_way;
    least = λ other way. busy.least other (busy_told other way);
  }

  -- the holder that is reported is the same
  holder_same : holder_of locks (asked n mode at) ≡ busy_holder g0 a n (Some (lock_in mode id))
  holder_same = by_holder (busy_holder g0 a n (Some (lock_in mode id))) refl where
    by_holder : (o : Option ℕ) → busy_holder g0 a n (Some (lock_in mode id)) ≡ o → holder_of locks (asked n mode at) ≡ o
    by_holder None none = find_free locks (asked n mode at) (free_told (free_law g0 a n (Some (lock_in mode id)) all.within none))
    by_holder (Some holder) is = find_least locks (asked n mode at) holder (least_told holder (busy_law g0 a n (lock_in mode id) holder all.within is))

not_busy : (o : Option ℕ) → busy_with o ≡ None → o ≡ None
not_busy None is = refl
not_busy (Some holder) is = cc

module _ (m : Memory) (c : Core) (valid : IsValid c) (runs : RunsLocked c.g0 c.first c.history) (is : Works m (account c.history) c) (s : ℕ) (t : Transaction)
    (active : (account c.history).active s ≡ Some t) where
  -- what the history says
  abbrev a : Account
  a = account c.history

  -- what the transaction sees
  abbrev v : View
  v = view c.g0 a t

  among : (id : Id) (at : ℕ) → address_of c.places id ≡ Some at → address_of (completed_places valid.behind c.places c.remaining (all_words c)) id ≡ Some at
  among id at there = address_of-append_left c.places (future valid.behind (all_words c) c.remaining) id at there

  table_of : IsLockTable m.locks c.places c.g0 a
  table_of = record { held = is.sessions.locks; one = λ id q at here there. stands_one valid.told.stands id q at (among id at here) (among q at there); within = valid.in_sessions }

  -- memory finds the holder that the model finds
  pub same_holder : (id : Id) (at : ℕ) (mode : table.Mode) → address_of c.places id ≡ Some at → holder_of m.locks (asked t.number mode at) ≡ busy_holder c.g0 a t.number (Some (lock_in mode id))
  same_holder id at mode place = holder_same m.locks c.places c.g0 a table_of t.number id at mode place

  -- so memory refuses a lock on an object at hand as the model does
  pub lock_same : (id : Id) (mode : table.Mode) (undo : List UndoEntry) → IsAtHand c.places t.number v.made id
      → lock_refusal m.locks (kept c.places v t.number undo) mode (place_in c.places v.graph id) ≡ busy_with (busy_holder c.g0 a t.number (Some (lock_in mode id)))
  lock_same id mode undo (inl there) =
      let x : TransactionState = kept c.places v t.number undo in
      let place = some_address (address_of c.places id) there in
      ap (lock_refusal m.locks x mode) (place_in-placed c.places v.graph id place.0 place.1) ∙ ap busy_with (same_holder id place.0 mode place.1)
  lock_same id mode undo (inr own) =
      let x : TransactionState = kept c.places v t.number undo in
      let lock = lock_in mode id in
      ap (lock_refusal m.locks x mode) (place_in-apart c.places v.graph id (own_apart (writing_of a c s t active valid).made own))
      ∙ ap busy_with (sym (free_found c.g0 a t.number (Some lock) (made_is_free c.g0 c.history runs.plain runs.two_phase s t lock active own.maker)))

  -- where memory refuses none, no other transaction has a conflicting lock
  pub lock_free : (id : Id) (mode : table.Mode) (undo : List UndoEntry) → IsAtHand c.places t.number v.made id
      → lock_refusal m.locks (kept c.places v t.number undo) mode (place_in c.places v.graph id) ≡ None → IsFree c.g0 a t.number (Some (lock_in mode id))
  lock_free id mode undo at_hand none =
      free_law c.g0 a t.number (Some (lock_in mode id)) valid.in_sessions (not_busy (busy_holder c.g0 a t.number (Some (lock_in mode id))) (sym (lock_same id mode undo at_hand) ∙ none))
