use Rattle.txn_table.proofs.GoneAlong.{GoneUpto}
use Rattle.txn_table.proofs.txn_table.TxnTable.translate.Given as goal

-- those of the first sessions are updated
abbrev pub invariant-loop-place : goal.invariant-loop-place
invariant-loop-place l = GoneUpto l.pairs l.place l.initial.self l.self
