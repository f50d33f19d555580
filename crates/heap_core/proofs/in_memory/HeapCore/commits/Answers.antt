use Rattle.std.proofs.Common.{arith}
use Rattle.heap_core.proofs.in_memory.HeapCore.commits.Goals as goal

pub returns : goal.returns
returns c core heap = omega arith
