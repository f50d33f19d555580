use Rattle.heap_core.proofs.StepCore.{no_failure_at}
use Rattle.heap_core.proofs.in_memory.HeapCore.dirty.Goals as goal

pub returns : goal.returns
returns c core heap = c.dirty.ensures core (heap.engine (no_failure_at c.args.self.now.failed c.requires.unfailed))
