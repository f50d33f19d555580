use Rattle.limit_laws.proofs.Copies.Undisturbed.{undisturbed_law}
use Rattle.heap_theorems.proofs.limits.undisturbed_collections_copy_all_else.Goals as goal

pub returns : goal.returns
returns c = undisturbed_law
