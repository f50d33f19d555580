use Rattle.core_laws.proofs.Step.Flush.{calls-flushed}
use Rattle.heap_theorems.proofs.histories.flush_calls.Goals as goal

pub returns : goal.returns
returns c = calls-flushed
