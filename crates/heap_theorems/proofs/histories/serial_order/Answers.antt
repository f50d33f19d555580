use Rattle.commit_order.proofs.CommitLaws.{serial_order}
use Rattle.heap_theorems.proofs.histories.serial_order.Goals as goal

pub returns : goal.returns
returns c = serial_order
