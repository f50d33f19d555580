use Rattle.limit_laws.proofs.LogRoom.Ends.{fits_law}
use Rattle.heap_theorems.proofs.limits.log_keeps_room.Goals as goal

pub returns : goal.returns
returns c = fits_law
