use Rattle.heap_theorems.proofs.Renamed.{serial_renamed}
use Rattle.heap_theorems.proofs.graphs.serial_runs_keep_renamings.Goals as goal

pub returns : goal.returns
returns c = serial_renamed
