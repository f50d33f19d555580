use Rattle.limit_laws.proofs.LogRoom.Ends.{ends_law}
use Rattle.heap_theorems.proofs.limits.ends_have_room.Goals as goal

pub returns : goal.returns
returns c = ends_law
