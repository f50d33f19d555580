use Rattle.std.proofs.Common.{Some, None, ap, ◌∙◌}
use Rattle.sealed_graph.proofs.GraphLaws.{get-found}
use Rattle.sealed_graph.proofs.plain_graph.PlainGraph.get.Goals as goal

pub returns-in-Some : goal.returns-in-Some
returns-in-Some c = ap Some c.deref.ensures.value ∙ get-found c.self.inside.objects.entries c.args.self.now c.args.id (Some c.in-Some.values.now) c.self.view_is c.in-Some.ensures.value

pub returns-in-None : goal.returns-in-None
returns-in-None c = get-found c.self.inside.objects.entries c.args.self.now c.args.id None c.self.view_is c.in-None.ensures.value
