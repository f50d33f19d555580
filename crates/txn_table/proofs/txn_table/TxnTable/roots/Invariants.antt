use Rattle.txn_table.proofs.RootsLaws.{AreUpto}
use Rattle.txn_table.proofs.txn_table.TxnTable.roots.Given as goal

-- those that are locked and those of the first slots
abbrev pub invariant-loop-slot : goal.invariant-loop-slot
invariant-loop-slot l = AreUpto l.locks l.slot-items l.slot-index l.roots.items
