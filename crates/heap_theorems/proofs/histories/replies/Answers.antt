use Rattle.core_laws.proofs.Run.Replies.{replies_law}
use Rattle.heap_theorems.proofs.histories.replies.Goals as goal

pub returns : goal.returns
returns c = replies_law
