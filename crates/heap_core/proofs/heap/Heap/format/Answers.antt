use Rattle.heap_core.proofs.heap.Heap.format.Goals as goal

pub returns-in-Ok-clause-made : goal.returns-in-Ok-clause-made
returns-in-Ok-clause-made g c tells = (c.in-Ok.ensures.made tells, c.in-Ok.ensures.durable tells)
