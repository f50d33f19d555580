-- The transactions of the sessions after objects have moved.
use Rattle.std.specs.Prelude.{◌≡◌, ℕ, List, map, Option, None, Some}
use Rattle.relocation.specs.Relocation.{moved_to}
use Rattle.log_machine.specs.Translation.{translated_list}
use Rattle.volatile_area.specs.Area.{IsArea, IsTranslated}
use Rattle.txn_table.specs.declared.place.Place.{Place}
use Rattle.txn_table.specs.declared.place.Place.TheVariants.{Stable, Volatile}
use Rattle.txn_table.specs.Table.{TransactionState, TableState, transaction_of}

-- what a handle holds then: the same object, at its new place
abbrev pub translated_handle : List (ℕ × ℕ) → Option Place → Option Place
translated_handle pairs None = None
translated_handle pairs (Some (Stable address)) = Some (Stable (moved_to pairs address))
translated_handle pairs (Some (Volatile index)) = Some (Volatile index)

-- A transaction is updated: what its handles hold, its writes that may be taken back, and its area.
pub record HasGoneAlong (pairs : List (ℕ × ℕ)) (old new : TransactionState) : Type 0 where
  pub number : new.number ≡ old.number
  pub handles : new.handles ≡ map (translated_handle pairs) old.handles
  pub undo : new.undo ≡ translated_list pairs old.undo
  pub area : IsTranslated pairs old.area new.area
  pub sound : IsArea new.area  -- whose objects still fill it end to end

-- so is the transaction of a session, if it has one
abbrev pub GoesAlong : List (ℕ × ℕ) → Option TransactionState → Option TransactionState → Type 0
GoesAlong pairs None None = Unit {0}
GoesAlong pairs None (Some new) = ⊥
GoesAlong pairs (Some old) None = ⊥
GoesAlong pairs (Some old) (Some new) = HasGoneAlong pairs old new

-- The transactions of all sessions are updated.
pub record HaveGoneAlong (pairs : List (ℕ × ℕ)) (old new : TableState) : Type 0 where
  pub next : new.next ≡ old.next
  pub sessions : (s : ℕ) → GoesAlong pairs (transaction_of old s) (transaction_of new s)

-- That of one session is, and those of the others are as they were.
pub record HasGoneAlongAt (pairs : List (ℕ × ℕ)) (s : ℕ) (old new : TableState) : Type 0 where
  pub next : new.next ≡ old.next
  pub session : GoesAlong pairs (transaction_of old s) (transaction_of new s)
  pub others : (other : ℕ) → (other ≡ s → ⊥) → transaction_of new other ≡ transaction_of old other
