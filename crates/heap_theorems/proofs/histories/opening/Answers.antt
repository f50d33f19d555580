use Rattle.core_laws.proofs.Opening.Again.{opening_law}
use Rattle.heap_theorems.proofs.histories.opening.Goals as goal

pub returns : goal.returns
returns c = opening_law
