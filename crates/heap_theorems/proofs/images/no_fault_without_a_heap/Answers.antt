use Rattle.heap_recovery.proofs.FaultLaws.{no_heap_fault}
use Rattle.heap_theorems.proofs.images.no_fault_without_a_heap.Goals as goal

pub returns : goal.returns
returns c = no_heap_fault
