use Rattle.limit_laws.proofs.LogRoom.Ends.{fits_law}
use Rattle.limit_laws.proofs.room.logs_keep_room_for_all_ends.Goals as goal

pub returns : goal.returns
returns c = fits_law
