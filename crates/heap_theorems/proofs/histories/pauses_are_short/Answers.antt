use Rattle.core_laws.proofs.Collecting.Few.{pause_law}
use Rattle.heap_theorems.proofs.histories.pauses_are_short.Goals as goal

pub returns : goal.returns
returns c = pause_law
