use Rattle.limit_laws.proofs.LogRoom.Ends.{rollback_law}
use Rattle.heap_theorems.proofs.limits.rollbacks_have_room.Goals as goal

pub returns : goal.returns
returns c = rollback_law
