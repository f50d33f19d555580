use Rattle.limit_laws.proofs.Copies.Exact.{used_law}
use Rattle.heap_theorems.proofs.limits.collected_says_the_words_in_use.Goals as goal

pub returns : goal.returns
returns c = used_law
