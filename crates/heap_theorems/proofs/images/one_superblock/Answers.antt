use Rattle.image_plan.proofs.SuperLaws.{one_super}
use Rattle.heap_theorems.proofs.images.one_superblock.Goals as goal

pub returns : goal.returns
returns c = one_super
