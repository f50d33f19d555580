use Rattle.heap_recovery.proofs.FaultLaws.{one_fault}
use Rattle.heap_theorems.proofs.images.one_fault.Goals as goal

pub returns : goal.returns
returns c = one_fault
