use Rattle.commit_order.proofs.StrictLaws.{strict_locking}
use Rattle.heap_theorems.proofs.histories.strict_locking.Goals as goal

pub returns : goal.returns
returns c = strict_locking
