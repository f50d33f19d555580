use Rattle.seal_laws.proofs.Beside.{all_or_made, current_or_made}
use Rattle.seal_laws.proofs.seals.seals_promote_what_was_made.Goals as goal

pub returns : goal.returns
returns a c id at can = (λ there. current_or_made c can id at there, λ there. all_or_made c can id at there)
