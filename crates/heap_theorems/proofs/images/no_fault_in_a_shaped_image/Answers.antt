use Rattle.heap_recovery.proofs.FaultLaws.{shaped_whole}
use Rattle.heap_theorems.proofs.images.no_fault_in_a_shaped_image.Goals as goal

pub returns : goal.returns
returns c = shaped_whole
