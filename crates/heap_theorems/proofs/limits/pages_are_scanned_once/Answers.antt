use Rattle.limit_laws.proofs.Progress.Pages.{pages_law}
use Rattle.heap_theorems.proofs.limits.pages_are_scanned_once.Goals as goal

pub returns : goal.returns
returns c = pages_law
