use Rattle.core_laws.proofs.Run.Ending.{ending_ends}
use Rattle.heap_theorems.proofs.histories.ending_ends.Goals as goal

pub returns : goal.returns
returns c = ending_ends
