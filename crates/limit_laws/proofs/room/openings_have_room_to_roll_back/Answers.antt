use Rattle.limit_laws.proofs.LogRoom.Ends.{rollback_law}
use Rattle.limit_laws.proofs.room.openings_have_room_to_roll_back.Goals as goal

pub returns : goal.returns
returns c = rollback_law
