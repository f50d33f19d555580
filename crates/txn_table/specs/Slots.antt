-- How the transactions of the sessions are kept: one after another, from the first session on.
use Rattle.std.specs.Prelude.{ℕ, ◌+◌, List, [], ◌∷◌, Option, None, Some}
use Rattle.std.specs.Ordering.{nat_cmp}
use Rattle.std.specs.FinMap.{FinMap, empty, insert}
use Rattle.txn_table.specs.Table.{TransactionState, TableState}

-- by session, the transactions of those from a session on
abbrev pub by_session : ℕ → List (Option TransactionState) → FinMap nat_cmp TransactionState
by_session s [] = empty
by_session s (None ∷ rest) = by_session (s + 1) rest
by_session s (Some t ∷ rest) = insert (by_session (s + 1) rest) s t

-- a table by its next number and what is kept for each session
abbrev pub table_of : ℕ → List (Option TransactionState) → TableState
table_of next slots = record { next = next; active = by_session 1 slots }
