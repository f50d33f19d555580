use Rattle.heap_model.proofs.Opening.OneMeaning.{one_graph}
use Rattle.heap_theorems.proofs.images.one_meaning.Goals as goal

pub returns : goal.returns
returns c = one_graph
