use Rattle.seen_laws.proofs.States.{sealed_born}
use Rattle.seen_laws.proofs.transactions.sealed_graphs_are_seen_by_birth.Goals as goal

pub returns : goal.returns
returns c s places remaining words g heap backed stands born = sealed_born s places remaining words heap backed stands born
