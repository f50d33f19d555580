use Rattle.gated_log.proofs.LogLaws.{holds_or_breaks}
use Rattle.heap_theorems.proofs.images.log_holds_or_breaks.Goals as goal

pub returns : goal.returns
returns c = holds_or_breaks
