use Rattle.core_laws.proofs.Run.Calls.{steps_law}
use Rattle.heap_theorems.proofs.histories.steps.Goals as goal

pub returns : goal.returns
returns c = steps_law
