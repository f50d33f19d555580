use Rattle.object_layout.proofs.SeenLaws.{seen_canon}
use Rattle.heap_theorems.proofs.graphs.one_canon_is_seen.Goals as goal

pub returns : goal.returns
returns c = seen_canon
