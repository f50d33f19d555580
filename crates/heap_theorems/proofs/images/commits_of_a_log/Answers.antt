use Rattle.log_machine.proofs.StateLaws.{commits-from}
use Rattle.heap_theorems.proofs.images.commits_of_a_log.Goals as goal

pub returns : goal.returns
returns c = λ o. commits-from o.state
