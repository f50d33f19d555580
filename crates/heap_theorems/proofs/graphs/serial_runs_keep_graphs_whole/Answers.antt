use Rattle.graph_model.proofs.Whole.Whole.{serial-IsWhole}
use Rattle.heap_theorems.proofs.graphs.serial_runs_keep_graphs_whole.Goals as goal

pub returns : goal.returns
returns c = serial-IsWhole
