use Rattle.core_laws.proofs.Crash.Image.{crash_law}
use Rattle.heap_theorems.proofs.histories.crash.Goals as goal

pub returns : goal.returns
returns c = crash_law
