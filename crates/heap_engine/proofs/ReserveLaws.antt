-- How what is kept for the ends of the transactions changes with them, and how many are active.
use Rattle.std.proofs.Common.{◌≡◌, ◌≢◌, ℕ, zero, suc, ◌+◌, ◌*◌, ◌<◌, ◌≤◌, inl, inr, length, nat_cmp, Option, None, Some, refl, ap, ◌∙◌, arith}
use Rattle.std.specs.Prelude.{sum_by}
use Rattle.std.specs.FinMap.{get-empty}
use Rattle.std.specs.List.{range_with_len}
use Rattle.std.proofs.lemmas.Bool.{cases_eq}
use Rattle.std.proofs.lemmas.List.Sums.{sum_by-cons}
use Rattle.graph_model.specs.History.{sessions, IsSession}
use Rattle.log_machine.specs.Machine.{end_bytes}
use Rattle.txn_table.specs.Table.{TransactionState, TableState, new_table, transaction_of, with_transaction, with_begun, with_ended}
use Rattle.txn_table.proofs.TableLaws.{with_transaction_same, with_transaction_other, with_begun_same, with_begun_other, with_ended_same, with_ended_other}
use Rattle.heap_memory.specs.Memory.{kept_for_end, reserved}
use Rattle.heap_engine.specs.Reserve.{one_if, active_count}

-- Sums over numbers in a row.

-- those that differ at a number before them alone are the same
sum_same : (f g : ℕ → ℕ) (s from n : ℕ) → s < from → ((q : ℕ) → q ≢ s → f q ≡ g q) → sum_by f (range_with_len from n) ≡ sum_by g (range_with_len from n)
sum_same f g s from zero before others = refl
sum_same f g s from (suc n) before others =
    let here = others from (λ e. omega arith) in
    let rest = sum_same f g s (from + 1) n (omega arith) others in
    omega (arith, here, rest, sum_by-cons f from (range_with_len (from + 1) n), sum_by-cons g from (range_with_len (from + 1) n))

-- those that differ at one of them alone differ by as much
sum_turned : (f g : ℕ → ℕ) (s from n : ℕ) → from ≤ s → s < from + n → ((q : ℕ) → q ≢ s → f q ≡ g q)
    → sum_by f (range_with_len from n) + g s ≡ sum_by g (range_with_len from n) + f s
sum_turned f g s from zero low high others = absurd (omega arith)
sum_turned f g s from (suc n) low high others =
    let first = sum_by-cons f from (range_with_len (from + 1) n) in
    let second = sum_by-cons g from (range_with_len (from + 1) n) in
    elim (cases_eq from s) [
      | inl here ↦
          let rest = sum_same f g s (from + 1) n (omega arith) others in
          omega (arith, first, second, rest, ap f here, ap g here)
      | inr apart ↦
          let same = others from apart in
          let rest = sum_turned f g s (from + 1) n (omega arith) (omega arith) others in
          omega (arith, first, second, rest, same)
    ]

sum_none : (f : ℕ → ℕ) (from n : ℕ) → ((q : ℕ) → f q ≡ 0) → sum_by f (range_with_len from n) ≡ 0
sum_none f from zero none = refl
sum_none f from (suc n) none = omega (arith, none from, sum_none f (from + 1) n none, sum_by-cons f from (range_with_len (from + 1) n))

-- Sums over the sessions.

-- what the sessions' transactions come to
abbrev pub total : (Option TransactionState → ℕ) → TableState → ℕ
total value table = sum_by (λ s. value (transaction_of table s)) sessions

-- where that of one session changes alone
pub total_turned : (value : Option TransactionState → ℕ) (old new : TableState) (s : ℕ) → IsSession s → ((q : ℕ) → q ≢ s → transaction_of new q ≡ transaction_of old q)
    → total value new + value (transaction_of old s) ≡ total value old + value (transaction_of new s)
unfolding sessions
total_turned value old new s is others =
    sum_turned (λ q. value (transaction_of new q)) (λ q. value (transaction_of old q)) s 1 32 is.0 (omega arith) (λ q apart. ap value (others q apart))

pub total_none : (value : Option TransactionState → ℕ) (next : ℕ) → value None ≡ 0 → total value (new_table next) ≡ 0
unfolding sessions
total_none value next none = sum_none (λ q. value (transaction_of (new_table next) q)) 1 32 (λ q. ap value (get-empty nat_cmp q) ∙ none)

-- What is kept.

pub reserved_begun : (table : TableState) (s : ℕ) → IsSession s → transaction_of table s ≡ None → reserved (with_begun table s) ≡ reserved table + end_bytes 0
reserved_begun table s is idle =
    let turned = total_turned kept_for_end table (with_begun table s) s is (with_begun_other table s) in
    omega (arith, turned, ap kept_for_end idle, ap kept_for_end (with_begun_same table s))

pub reserved_ended : (table : TableState) (s : ℕ) (t : TransactionState) → IsSession s → transaction_of table s ≡ Some t → reserved (with_ended table s) + end_bytes (length t.undo) ≡ reserved table
reserved_ended table s t is has =
    let turned = total_turned kept_for_end table (with_ended table s) s is (with_ended_other table s) in
    omega (arith, turned, ap kept_for_end has, ap kept_for_end (with_ended_same table s))

-- if the transaction has that many more writes
pub reserved_more : (table : TableState) (s : ℕ) (t u : TransactionState) (more : ℕ) → IsSession s → transaction_of table s ≡ Some t → length u.undo ≡ length t.undo + more
    → reserved (with_transaction table s u) ≡ reserved table + 19 * more
reserved_more table s t u more is has long =
    let turned = total_turned kept_for_end table (with_transaction table s u) s is (with_transaction_other table s u) in
    omega (arith, turned, long, ap kept_for_end has, ap kept_for_end (with_transaction_same table s u))

-- How many are active.

pub count_begun : (table : TableState) (s : ℕ) → IsSession s → transaction_of table s ≡ None → active_count (with_begun table s) ≡ active_count table + 1
count_begun table s is idle =
    let turned = total_turned one_if table (with_begun table s) s is (with_begun_other table s) in
    omega (arith, turned, ap one_if idle, ap one_if (with_begun_same table s))

pub count_ended : (table : TableState) (s : ℕ) (t : TransactionState) → IsSession s → transaction_of table s ≡ Some t → active_count (with_ended table s) + 1 ≡ active_count table
count_ended table s t is has =
    let turned = total_turned one_if table (with_ended table s) s is (with_ended_other table s) in
    omega (arith, turned, ap one_if has, ap one_if (with_ended_same table s))

pub count_same : (table : TableState) (s : ℕ) (t u : TransactionState) → IsSession s → transaction_of table s ≡ Some t → active_count (with_transaction table s u) ≡ active_count table
count_same table s t u is has =
    let turned = total_turned one_if table (with_transaction table s u) s is (with_transaction_other table s u) in
    omega (arith, turned, ap one_if has, ap one_if (with_transaction_same table s u))
