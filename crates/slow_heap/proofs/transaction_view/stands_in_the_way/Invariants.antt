use Rattle.std.proofs.Common.{◌≡◌, drop}
use Rattle.std.specs.List.{list_any}
use Rattle.slow_heap.specs.Objects.{graph_of}
use Rattle.slow_heap.specs.SlowHeap.{seen_by}
use Rattle.graph_model.specs.Locking.{locks_conflict, locks_of_calls, locks_of}
use Rattle.slow_heap.proofs.transaction_view.stands_in_the_way.Given as goal

-- one of the locks of the calls that are left conflicts just where one of all does
abbrev pub invariant-loop-call : goal.invariant-loop-call
invariant-loop-call l =
    (l.view.number ≡ l.transaction.number)
    × (list_any (locks_conflict l.asked) (locks_of_calls (seen_by l.view) l.transaction.number (drop l.call-index l.call-items)) ≡ list_any (locks_conflict l.asked) (locks_of (graph_of l.objects) l.transaction))
