use Rattle.core_laws.proofs.Run.Ending.{ending_granted}
use Rattle.heap_theorems.proofs.histories.ending_is_granted.Goals as goal

pub returns : goal.returns
returns c = ending_granted
