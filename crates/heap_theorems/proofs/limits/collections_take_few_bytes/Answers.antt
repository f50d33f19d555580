use Rattle.limit_laws.proofs.Bytes.Runs.{bytes_law}
use Rattle.heap_theorems.proofs.limits.collections_take_few_bytes.Goals as goal

pub returns : goal.returns
returns c = bytes_law
