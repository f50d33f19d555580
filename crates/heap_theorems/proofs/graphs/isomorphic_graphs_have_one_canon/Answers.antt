use Rattle.heap_theorems.proofs.Renamed.{isomorphic_canon}
use Rattle.heap_theorems.proofs.graphs.isomorphic_graphs_have_one_canon.Goals as goal

pub returns : goal.returns
returns c = isomorphic_canon
