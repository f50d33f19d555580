use Rattle.limit_laws.proofs.Progress.Ends.{end_law}
use Rattle.heap_theorems.proofs.limits.collections_end.Goals as goal

pub returns : goal.returns
returns c = end_law
