use Rattle.graph_model.proofs.Canon.Renaming.{canon_tells_renaming}
use Rattle.heap_theorems.proofs.graphs.canon_tells_renaming.Goals as goal

pub returns : goal.returns
returns c = canon_tells_renaming
