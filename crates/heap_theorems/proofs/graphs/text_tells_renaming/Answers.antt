use Rattle.heap_theorems.proofs.Renamed.{text_tells_renaming}
use Rattle.heap_theorems.proofs.graphs.text_tells_renaming.Goals as goal

pub returns : goal.returns
returns c = text_tells_renaming
