use Rattle.std.proofs.Common.{◌≡◌, None, replicate}
use Rattle.txn_table.proofs.txn_table.TxnTable.new.Given as goal

abbrev pub invariant-loop : goal.invariant-loop
invariant-loop l = l.slots.items ≡ replicate l.counter None
