use Rattle.seal_laws.proofs.Beside.{made_kept}
use Rattle.seal_laws.proofs.seals.seals_keep_what_others_made.Goals as goal

pub returns : goal.returns
returns a c u made g h can has then same = made_kept c can u made g h has then same
