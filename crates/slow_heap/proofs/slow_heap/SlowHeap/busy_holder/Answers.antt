use Rattle.std.proofs.Common.{◌≡◌, sym, ap, ◌∙◌, arith}
use Rattle.graph_model.specs.Graph.{new_graph}
use Rattle.graph_model.specs.History.{account}
use Rattle.graph_model.specs.Locking.{busy_holder}
use Rattle.slow_heap.proofs.Holders.{least_from, least_from-first}
use Rattle.slow_heap.proofs.slow_heap.SlowHeap.busy_holder.Goals as goal

pub returns : goal.returns
returns c =
    let a = account c.args.self.now in
    let first : c.loop-s.s ≡ 1 = omega arith in
    c.loop-s.invariant.1
    ∙ ap (least_from new_graph a c.args.number c.in-Some.asked) first
    ∙ least_from-first new_graph a c.args.number c.in-Some.asked
    ∙ ap (busy_holder new_graph a c.args.number) (sym c.in-Some.is)
