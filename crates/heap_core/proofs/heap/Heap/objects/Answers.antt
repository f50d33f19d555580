use Rattle.heap_core.proofs.RefinementMemory.{in_memory}
use Rattle.heap_core.proofs.heap.Heap.objects.Goals as goal

pub returns-clause-count : goal.returns-clause-count
returns-clause-count g c core heap reached = c.objects.ensures.count core (in_memory g.D.Disk core c.args.self.now.core c.args.self.now.disk heap) reached

pub returns-clause-error : goal.returns-clause-error
returns-clause-error g c core heap reached = c.objects.ensures.error core (in_memory g.D.Disk core c.args.self.now.core c.args.self.now.disk heap) reached
