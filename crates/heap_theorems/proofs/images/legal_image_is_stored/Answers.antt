use Rattle.heap_theorems.proofs.Stored.{legal_stored}
use Rattle.heap_theorems.proofs.images.legal_image_is_stored.Goals as goal

pub returns : goal.returns
returns c = legal_stored
