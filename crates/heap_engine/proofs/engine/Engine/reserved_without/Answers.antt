use Rattle.std.proofs.Common.{◌≡◌, ◌+◌, ◌-◌, ◌≤◌, ℕ, List, Some, length, reverse, ap, arith}
use Rattle.std.specs.Prelude.{IsSome, IfSome}
use Rattle.std.proofs.lemmas.List.{length-reverse}
use Rattle.log_machine.specs.declared.UndoEntry.{UndoEntry}
use Rattle.log_machine.specs.Machine.{end_bytes}
use Rattle.logged_pages.specs.State.{pages_in_memory}
use Rattle.txn_table.specs.Table.{TransactionState, TableState, transaction_of}
use Rattle.heap_engine.specs.Reserve.{AreSound}
use Rattle.heap_engine.proofs.Tables.{there, told, say, kept_own}
use Rattle.heap_engine.proofs.engine.Engine.reserved_without.Goals as goal

-- the transaction has as many writes as its list, and enough is kept for its end
kept : (table : TableState) (size bytes sealed s : ℕ) (us : List UndoEntry) → AreSound table size bytes sealed → IsSome (transaction_of table s) → IfSome (transaction_of table s) (λ t. reverse us ≡ t.undo)
    → (t : TransactionState) × (transaction_of table s ≡ Some t) × (length us ≡ length t.undo) × (end_bytes (length t.undo) ≤ bytes)
kept table size bytes sealed s us sound some is =
    let t = there (transaction_of table s) some in
    let same = ap length (told (transaction_of table s) t.0 (λ v. reverse us ≡ v.undo) t.1 is) in
    (t.0, t.1, omega (arith, same, length-reverse us), kept_own table size bytes sealed s t.0 sound t.1)

pub overflow_sub-result : goal.overflow_sub-result
overflow_sub-result c =
    let s = c.args.self.now in
    let own = kept s.table (length (pages_in_memory s.pages).words) s.reserved s.sealed c.args.session c.undo.result.now s.sound c.requires c.undo.ensures in
    omega (arith, c.end_bytes.ensures, own.2, own.3)

pub returns-clause-kept : goal.returns-clause-kept
returns-clause-kept c =
    let s = c.args.self.now in
    let own = kept s.table (length (pages_in_memory s.pages).words) s.reserved s.sealed c.args.session c.undo.result.now s.sound c.requires c.undo.ensures in
    say (transaction_of s.table c.args.session) own.0 (λ t. s.reserved - c.end_bytes.result + end_bytes (length t.undo) ≡ s.reserved) own.1 (omega (arith, c.end_bytes.ensures, own.2, own.3))
