use Rattle.std.proofs.Common.{◌≡◌, ◌≤◌}
use Rattle.graph_model.specs.Graph.{new_graph}
use Rattle.graph_model.specs.History.{account}
use Rattle.slow_heap.proofs.Holders.{least_from}
use Rattle.slow_heap.proofs.slow_heap.SlowHeap.busy_holder.Given as goal

-- the least of those that were asked, from the last session on
abbrev pub invariant-loop-s : goal.invariant-loop-s
invariant-loop-s l = (1 ≤ l.s) × (l.least ≡ least_from new_graph (account l.self) l.number l.asked l.s)
