use Rattle.std.proofs.Common.{refl}
use Rattle.sealed_graph.proofs.GraphLaws.{graph_of-written}
use Rattle.sealed_graph.proofs.plain_graph.PlainGraph.insert.Goals as goal

pub returns-clause-ok : goal.returns-clause-ok
returns-clause-ok c =
    graph_of-written c.self.inside.objects.entries c.insert.new.self.entries c.args.self.now c.args.id c.args.values c.args.values.items c.self.view_is c.in_ok-insert.ensures.updates.0 refl
