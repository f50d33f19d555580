use Rattle.seal_laws.proofs.Left.{seal_named}
use Rattle.seal_laws.proofs.seals.seals_keep_names.Goals as goal

pub returns : goal.returns
returns a c can named = seal_named c can named
