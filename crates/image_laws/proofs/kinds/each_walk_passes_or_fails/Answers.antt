use Rattle.image_laws.proofs.Walk.{beside_or_fault}
use Rattle.image_laws.proofs.kinds.each_walk_passes_or_fails.Goals as goal

pub returns : goal.returns
returns c = beside_or_fault
