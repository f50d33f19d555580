use Rattle.heap_theorems.proofs.Stored.{shaped_heap}
use Rattle.heap_theorems.proofs.images.no_heap_is_not_shaped.Goals as goal

pub returns : goal.returns
returns c = shaped_heap
