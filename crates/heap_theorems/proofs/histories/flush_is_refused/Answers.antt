use Rattle.core_laws.proofs.Step.Flush.{flush_refused}
use Rattle.heap_theorems.proofs.histories.flush_is_refused.Goals as goal

pub returns : goal.returns
returns c = flush_refused
