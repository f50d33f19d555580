use Rattle.std.proofs.Common.{sym, ap, ◌∙◌}
use Rattle.std.specs.FinMap.{len}
use Rattle.std.proofs.lemmas.List.{length-map}
use Rattle.slow_heap.specs.Objects.{row_of, graph_of}
use Rattle.slow_heap.proofs.RowLaws.{len-graph_of}
use Rattle.slow_heap.proofs.objects.Objects.len.Goals as goal

pub returns : goal.returns
returns c =
    c.len.ensures
    ∙ c.self.inside.objects.ok.0
    ∙ sym (length-map c.self.inside.objects.items row_of)
    ∙ sym (len-graph_of _ c.self.invariant)
    ∙ ap (λ rows. len (graph_of rows)) c.self.view_is
