-- Laws of the table: what a session has after a change, and which changes are the same.
use Rattle.std.proofs.Common.{◌≡◌, ◌≢◌, ℕ, Option, None, Some, ap, ◌∙◌, subst}
use Rattle.std.specs.Prelude.{IfSome}
use Rattle.log_machine.proofs.MapLaws.{get_inserted, get_beside, get_removed, get_kept, insert_insert, insert_known}
use Rattle.txn_table.specs.Table.{TransactionState, TableState, new_transaction, transaction_of, with_transaction, with_begun, with_ended, Changes}

-- The session's own transaction.

pub with_transaction_same : (table : TableState) (s : ℕ) (t : TransactionState) → transaction_of (with_transaction table s t) s ≡ Some t
with_transaction_same table s t = get_inserted table.active s t

pub with_begun_same : (table : TableState) (s : ℕ) → transaction_of (with_begun table s) s ≡ Some (new_transaction table.next)
with_begun_same table s = get_inserted table.active s (new_transaction table.next)

pub with_ended_same : (table : TableState) (s : ℕ) → transaction_of (with_ended table s) s ≡ None
with_ended_same table s = get_removed table.active s

-- Those of the others stay.

pub with_transaction_other : (table : TableState) (s : ℕ) (t : TransactionState) (q : ℕ) → q ≢ s → transaction_of (with_transaction table s t) q ≡ transaction_of table q
with_transaction_other table s t q other = get_beside table.active s t q other

pub with_begun_other : (table : TableState) (s q : ℕ) → q ≢ s → transaction_of (with_begun table s) q ≡ transaction_of table q
with_begun_other table s q other = get_beside table.active s (new_transaction table.next) q other

pub with_ended_other : (table : TableState) (s q : ℕ) → q ≢ s → transaction_of (with_ended table s) q ≡ transaction_of table q
with_ended_other table s q other = get_kept table.active s q other

-- Changes.

-- what a change made of the table
pub changes_is : (old new : TableState) (s : ℕ) (change : TransactionState → TransactionState) (t : TransactionState) → Changes old new s change → transaction_of old s ≡ Some t
    → new ≡ with_transaction old s (change t)
changes_is old new s change t changed is = subst (λ (o : Option TransactionState). IfSome o (λ v. new ≡ with_transaction old s (change v))) is changed

-- and of the session's transaction
pub changes_same : (old new : TableState) (s : ℕ) (change : TransactionState → TransactionState) (t : TransactionState) → Changes old new s change → transaction_of old s ≡ Some t
    → transaction_of new s ≡ Some (change t)
changes_same old new s change t changed is =
    ap (λ (table : TableState). transaction_of table s) (changes_is old new s change t changed is) ∙ with_transaction_same old s (change t)

-- a second change overrides the first
pub with_transaction_twice : (table : TableState) (s : ℕ) (t u : TransactionState) → with_transaction (with_transaction table s t) s u ≡ with_transaction table s u
with_transaction_twice table s t u = ap (λ m. let new : TableState = record { next = table.next; active = m } in new) (insert_insert table.active s t u)

-- setting what a session already has changes nothing
pub with_transaction_known : (table : TableState) (s : ℕ) (t : TransactionState) → transaction_of table s ≡ Some t → with_transaction table s t ≡ table
with_transaction_known table s t is = ap (λ m. let new : TableState = record { next = table.next; active = m } in new) (insert_known table.active s t is)
