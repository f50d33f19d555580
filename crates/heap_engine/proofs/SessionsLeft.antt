-- The words without what the active transactions wrote, found session after session.
use Rattle.std.proofs.Common.{◌≡◌, ℕ, suc, ◌+◌, List, length, Option, None, ap, ◌∙◌, subst, arith}
use Rattle.std.specs.List.{range_with_len}
use Rattle.graph_model.specs.History.{sessions}
use Rattle.log_machine.specs.Machine.{taken_back}
use Rattle.log_machine.proofs.WordsLaws.{length-taken_back}
use Rattle.txn_table.specs.Table.{TransactionState, TableState, transaction_of}
use Rattle.heap_engine.specs.Reserve.{undo_if}
use Rattle.heap_engine.specs.EngineState.{without_writes}

-- With the writes of the sessions from s on taken back these are the words that are wanted.
pub record IsLeft (table : TableState) (words : List ℕ) (s : ℕ) (now : List ℕ) : Type 0 where
  pub left : (n : ℕ) → s + n ≡ 33 → without_writes table now (range_with_len s n) ≡ without_writes table words sessions
  pub long : length now ≡ length words

pub left_first : (table : TableState) (words now : List ℕ) → now ≡ words → IsLeft table words 1 now
unfolding sessions
left_first table words now is = record {
  left = λ n end. let all : n ≡ 32 = omega arith in λ i. without_writes table (is i) (range_with_len 1 (all i));
  long = ap length is;
}

pub left_more : (table : TableState) (words : List ℕ) (s : ℕ) (now : List ℕ) → IsLeft table words s now → IsLeft table words (s + 1) (taken_back (undo_if (transaction_of table s)) now)
left_more table words s now before = record {
  left = λ n end. before.left (suc n) (omega arith);
  long = length-taken_back (undo_if (transaction_of table s)) now ∙ before.long;
}

-- there is nothing to take back of a session without a transaction
pub left_same : (table : TableState) (words : List ℕ) (s : ℕ) (now : List ℕ) → transaction_of table s ≡ None → IsLeft table words s now → IsLeft table words (s + 1) now
left_same table words s now none before =
    subst (λ (o : Option TransactionState). IsLeft table words (s + 1) (taken_back (undo_if o) now)) none (left_more table words s now before)

pub left_last : (table : TableState) (words now : List ℕ) (s : ℕ) → s ≡ 33 → IsLeft table words s now → now ≡ without_writes table words sessions
left_last table words now s last all = all.left 0 (omega arith)
