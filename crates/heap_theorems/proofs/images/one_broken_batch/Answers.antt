use Rattle.gated_log.proofs.LogLaws.{breaks_once}
use Rattle.heap_theorems.proofs.images.one_broken_batch.Goals as goal

pub returns : goal.returns
returns c = breaks_once
