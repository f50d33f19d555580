use Rattle.image_laws.proofs.OneKind.{one_kind}
use Rattle.heap_theorems.proofs.images.each_image_is_of_one_kind.Goals as goal

pub returns : goal.returns
returns c = one_kind
