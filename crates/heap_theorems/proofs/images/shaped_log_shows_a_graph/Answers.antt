use Rattle.heap_model.proofs.Opening.Opened.{address_found}
use Rattle.heap_theorems.proofs.images.shaped_log_shows_a_graph.Goals as goal

pub returns : goal.returns
returns c = address_found
