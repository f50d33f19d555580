-- The transactions of the sessions.
use Rattle.std.specs.Prelude.{◌≡◌, ℕ, ◌+◌, List, [], replicate, Option, None, IfSome}
use Rattle.std.specs.Ordering.{nat_cmp}
use Rattle.std.specs.FinMap.{FinMap}
use Rattle.std.specs.FinMap as map
use Rattle.log_machine.specs.declared.UndoEntry.{UndoEntry}
use Rattle.volatile_area.specs.Area.{AreaState, new_area}
use Rattle.txn_table.specs.declared.place.Place.{Place}

-- A transaction that has not ended, as contracts see it.
pub record TransactionState : Type 0 where
  pub number : ℕ
  pub handles : List (Option Place)  -- what each of its 64 handles holds
  pub undo : List UndoEntry  -- its writes that may be taken back, the newest first
  pub area : AreaState  -- the objects that it has made

-- The transactions of the sessions, as contracts see them.
pub record TableState : Type 0 where
  pub next : ℕ  -- the number of the next transaction
  pub active : FinMap nat_cmp TransactionState  -- by session, the transactions that have not ended

-- a transaction that has done nothing
abbrev pub new_transaction : ℕ → TransactionState
new_transaction number = record { number = number; handles = replicate 64 None; undo = []; area = new_area number }

-- no session has a transaction
abbrev pub new_table : ℕ → TableState
new_table next = record { next = next; active = map.empty }

-- the transaction of a session, if it has one
abbrev pub transaction_of : TableState → ℕ → Option TransactionState
transaction_of table s = map.get table.active s

-- the table with a transaction as that of a session
abbrev pub with_transaction : TableState → ℕ → TransactionState → TableState
with_transaction table s t = record table { active = map.insert table.active s t }

-- the table when a session has begun the next transaction
abbrev pub with_begun : TableState → ℕ → TableState
with_begun table s = record { next = table.next + 1; active = map.insert table.active s (new_transaction table.next) }

-- the table when a session's transaction has ended
abbrev pub with_ended : TableState → ℕ → TableState
with_ended table s = record table { active = map.remove table.active s }

-- the transaction of a session was changed in this way, and nothing else
abbrev pub Changes : TableState → TableState → ℕ → (TransactionState → TransactionState) → Type 0
Changes old new s change = IfSome (transaction_of old s) (λ t. new ≡ with_transaction old s (change t))
