use Rattle.core_laws.proofs.Collecting.Holds.{scan_law}
use Rattle.heap_theorems.proofs.histories.scans_do_something.Goals as goal

pub returns : goal.returns
returns c = scan_law
