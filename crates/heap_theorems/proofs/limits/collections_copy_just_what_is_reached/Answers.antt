use Rattle.limit_laws.proofs.Copies.Exact.{exact_law}
use Rattle.heap_theorems.proofs.limits.collections_copy_just_what_is_reached.Goals as goal

pub returns : goal.returns
returns c = exact_law
