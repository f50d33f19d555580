use Rattle.std.proofs.Common.{refl}
use Rattle.walk_laws.proofs.Birth.Born.{born_named}
use Rattle.walk_laws.proofs.births.legal_births_name_heaps.Goals as goal

pub returns : goal.returns
returns c s next words spaces walked births = born_named s next words spaces s.collection refl walked births
