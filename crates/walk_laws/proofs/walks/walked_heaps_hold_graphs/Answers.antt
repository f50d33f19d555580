use Rattle.std.proofs.Common.{refl}
use Rattle.walk_laws.proofs.Graph.Held.{walked_held}
use Rattle.walk_laws.proofs.walks.walked_heaps_hold_graphs.Goals as goal

pub returns : goal.returns
returns c s words name spaces walked named apart = walked_held s words name spaces named s.collection refl walked apart
