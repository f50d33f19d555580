use Rattle.std.proofs.Common.{◌≡◌, drop}
use Rattle.slow_heap.specs.Objects.{graph_of}
use Rattle.slow_heap.specs.SlowHeap.{seen_by}
use Rattle.graph_model.specs.Transaction.{after_calls, run}
use Rattle.slow_heap.proofs.transaction_view.TransactionView.run.Given as goal

-- the calls that are left lead to what the whole run does
abbrev pub invariant-loop-call : goal.invariant-loop-call
invariant-loop-call l = (l.view.number ≡ l.transaction.number) × (after_calls (seen_by l.view) l.transaction.number (drop l.call-index l.call-items) ≡ run (graph_of l.objects) l.transaction)
