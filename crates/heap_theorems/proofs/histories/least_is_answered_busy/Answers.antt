use Rattle.core_laws.proofs.Answers.Busy.{busy_back}
use Rattle.heap_theorems.proofs.histories.least_is_answered_busy.Goals as goal

pub returns : goal.returns
returns c = busy_back
