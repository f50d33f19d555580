use Rattle.core_laws.proofs.Answers.Unseen.{unseen_law}
use Rattle.heap_theorems.proofs.histories.collections_are_not_seen.Goals as goal

pub returns : goal.returns
returns c = unseen_law
