use Rattle.heap_core.proofs.RefinementMemory.{in_memory}
use Rattle.heap_core.proofs.heap.Heap.graph.Goals as goal

pub returns-clause-text : goal.returns-clause-text
returns-clause-text g c core heap reached = c.graph.ensures.text core (in_memory g.D.Disk core c.args.self.now.core c.args.self.now.disk heap) reached

pub returns-clause-error : goal.returns-clause-error
returns-clause-error g c core heap reached = c.graph.ensures.error core (in_memory g.D.Disk core c.args.self.now.core c.args.self.now.disk heap) reached
