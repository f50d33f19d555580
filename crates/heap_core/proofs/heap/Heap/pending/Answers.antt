use Rattle.heap_core.proofs.RefinementMemory.{in_memory}
use Rattle.heap_core.proofs.heap.Heap.pending.Goals as goal

pub returns : goal.returns
returns g c core heap = c.pending.ensures core (in_memory g.D.Disk core c.args.self.now.core c.args.self.now.disk heap)
