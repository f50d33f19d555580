use Rattle.flip_copy.proofs.FlipKept.{flip_consistent}
use Rattle.flip_copy.proofs.laws.planned_flip_keeps_consistent.Goals as goal

pub returns : goal.returns
returns c = flip_consistent
