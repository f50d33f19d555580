use Rattle.std.proofs.lemmas.List.Elements.{same_from_all_zip}
use Rattle.sealed_graph.proofs.GraphLaws.{graph_of-clone}
use Rattle.sealed_graph.proofs.plain_graph.PlainGraph.copied.Goals as goal

pub returns : goal.returns
returns c =
    graph_of-clone _ _ c.self.inside.objects.entries c.in_ok-clone.field-0.entries c.args.self.now (λ x y same. same) (λ v w same. same_from_all_zip _ v.items w.items same.0 (λ x y is. is)) c.in_ok-clone.ensures.cases c.self.view_is
