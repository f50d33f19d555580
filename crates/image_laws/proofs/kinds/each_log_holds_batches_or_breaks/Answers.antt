use Rattle.image_laws.proofs.Batches.{log_or_breaks}
use Rattle.image_laws.proofs.kinds.each_log_holds_batches_or_breaks.Goals as goal

pub returns : goal.returns
returns c = log_or_breaks
