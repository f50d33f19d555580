use Rattle.flip_copy.proofs.MovedLaws.{planned_moved}
use Rattle.flip_copy.proofs.laws.planned_flip_moves_objects.Goals as goal

pub returns : goal.returns
returns c = planned_moved
