use Rattle.std.proofs.Common.{◌≡◌}
use Rattle.std.specs.String.{string_bytes}
use Rattle.graph_model.specs.Canon.{canon}
use Rattle.graph_model.specs.Text.{canon_text}
use Rattle.slow_heap.specs.Objects.{graph_of}
use Rattle.slow_heap.proofs.Texts.{with_rows}
use Rattle.slow_heap.proofs.graph_text.canon_text.Given as goal

-- with the rows that are to come it is the whole text
abbrev pub invariant-loop-number : goal.invariant-loop-number
invariant-loop-number l = with_rows (string_bytes l.text) (graph_of l.objects) l.id-items l.number ≡ canon_text (canon (graph_of l.objects))
