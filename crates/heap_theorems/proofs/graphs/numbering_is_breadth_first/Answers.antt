use Rattle.graph_model.proofs.Canon.Numbering.{numbered-IsNumbering}
use Rattle.heap_theorems.proofs.graphs.numbering_is_breadth_first.Goals as goal

pub returns : goal.returns
returns c = numbered-IsNumbering
