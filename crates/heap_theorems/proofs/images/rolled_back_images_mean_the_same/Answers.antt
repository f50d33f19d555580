use Rattle.heap_model.proofs.Opening.Held.{left_first}
use Rattle.heap_theorems.proofs.images.rolled_back_images_mean_the_same.Goals as goal

pub returns : goal.returns
returns c = left_first
