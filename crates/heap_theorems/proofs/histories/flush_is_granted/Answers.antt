use Rattle.core_laws.proofs.Step.Flush.{flush_granted}
use Rattle.heap_theorems.proofs.histories.flush_is_granted.Goals as goal

pub returns : goal.returns
returns c = flush_granted
