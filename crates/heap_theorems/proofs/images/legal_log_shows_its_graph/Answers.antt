use Rattle.heap_model.proofs.Opening.Opened.{saying_law}
use Rattle.heap_theorems.proofs.images.legal_log_shows_its_graph.Goals as goal

pub returns : goal.returns
returns c = saying_law
