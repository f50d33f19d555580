use Rattle.heap_theorems.proofs.Renamed.{seen_text_tells_renaming}
use Rattle.heap_theorems.proofs.graphs.seen_text_tells_renaming.Goals as goal

pub returns : goal.returns
returns c = seen_text_tells_renaming
