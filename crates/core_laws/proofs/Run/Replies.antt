-- The replies of a core that is reached.
use Rattle.commit_order.proofs.CommitLaws.{serial_order}
use Rattle.commit_order.specs.SerialOrder.{IsCommitOrdered}
use Rattle.heap_model.specs.Core.{Core}
use Rattle.core_laws.specs.Theorems.{RepliesTheorem}
use Rattle.core_laws.specs.Valid.{IsReached}

-- The history of a core is serial in the order of the seals, also for the transactions that are active.
pub ordered_law : (c : Core) → IsReached c → IsCommitOrdered c.g0 c.history
ordered_law c reached = serial_order c.g0 c.history reached.locked.plain reached.locked.two_phase

-- The calls of each commit had the replies of the serial run.
pub replies_law : RepliesTheorem
replies_law c reached = (ordered_law c reached).committed reached.locked.fails
