use Rattle.gated_log.proofs.LogLaws.{holds_once}
use Rattle.heap_theorems.proofs.images.one_list_of_batches.Goals as goal

pub returns : goal.returns
returns c = holds_once
