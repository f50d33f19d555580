use Rattle.core_laws.proofs.Collecting.Holds.{holds_law}
use Rattle.heap_theorems.proofs.histories.handles_hold_current_objects.Goals as goal

pub returns : goal.returns
returns c = holds_law
