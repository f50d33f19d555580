-- An object ends within the words.
use Rattle.std.proofs.Common.{arith}
use Rattle.page_scanner.proofs.plan.Plan.copy.Goals as goal

pub overflow_add-size : goal.overflow_add-size
overflow_add-size g c = let within = rw c.in-Some.is at c.in_ok-n.ensures.within in omega arith
