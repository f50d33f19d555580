use Rattle.std.proofs.Common.{sym, ap, ◌∙◌}
use Rattle.std.specs.FinMap.{len}
use Rattle.sealed_graph.proofs.GraphLaws.{len-graph_of}
use Rattle.sealed_graph.proofs.plain_graph.PlainGraph.len.Goals as goal

pub returns : goal.returns
returns c = c.len.ensures.len ∙ sym (len-graph_of c.self.inside.objects.entries c.len.ensures.ordered) ∙ ap len c.self.view_is
