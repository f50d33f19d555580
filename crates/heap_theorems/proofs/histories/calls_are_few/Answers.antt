use Rattle.heap_model.proofs.Run.Ending.{total_few}
use Rattle.heap_theorems.proofs.histories.calls_are_few.Goals as goal

pub returns : goal.returns
returns c = total_few
