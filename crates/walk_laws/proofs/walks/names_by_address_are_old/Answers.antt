use Rattle.std.proofs.Common.{refl}
use Rattle.walk_laws.proofs.Graph.ByAddress.{walked_old}
use Rattle.walk_laws.proofs.walks.names_by_address_are_old.Goals as goal

pub returns : goal.returns
returns c s words next spaces walked first = walked_old s words next spaces first s.collection refl walked
