use Rattle.core_laws.proofs.Answers.Busy.{busy_told}
use Rattle.heap_theorems.proofs.histories.busy_names_the_least.Goals as goal

pub returns : goal.returns
returns c = busy_told
