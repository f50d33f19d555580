use Rattle.seal_laws.proofs.Beside.{fields_kept, written_kept}
use Rattle.seal_laws.proofs.seals.seals_keep_what_others_wrote.Goals as goal

pub returns : goal.returns
returns a c us g can backed fields written = (fields_kept c can us g backed fields, written_kept c can us g backed written)
