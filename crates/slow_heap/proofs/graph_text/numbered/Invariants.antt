use Rattle.std.proofs.Common.{◌≡◌}
use Rattle.graph_model.specs.Canon.{numbered}
use Rattle.slow_heap.specs.Objects.{graph_of}
use Rattle.slow_heap.proofs.Texts.{visited}
use Rattle.slow_heap.proofs.graph_text.numbered.Given as goal

-- going on from here numbers all that is reached
abbrev pub invariant-loop-number : goal.invariant-loop-number
invariant-loop-number l = visited (graph_of l.objects) l.number-end l.number l.ids.items ≡ numbered (graph_of l.objects)
