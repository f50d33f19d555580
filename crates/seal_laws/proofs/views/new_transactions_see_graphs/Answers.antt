use Rattle.seal_laws.proofs.Begun.{begun_sees}
use Rattle.seal_laws.proofs.views.new_transactions_see_graphs.Goals as goal

pub returns : goal.returns
returns c s k places remaining words g t us under backed stands apart = begun_sees t us under backed stands apart
