use Rattle.heap_model.proofs.Opening.Held.{left_stands}
use Rattle.heap_theorems.proofs.images.openings_keep_the_meaning.Goals as goal

pub returns : goal.returns
returns c = left_stands
