use Rattle.core_laws.proofs.Opening.Again.{opened_again}
use Rattle.heap_theorems.proofs.histories.again.Goals as goal

pub returns : goal.returns
returns c = opened_again
