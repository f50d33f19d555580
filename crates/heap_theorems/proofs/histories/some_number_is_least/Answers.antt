use Rattle.core_laws.proofs.Answers.Busy.{hindered_gives_way}
use Rattle.heap_theorems.proofs.histories.some_number_is_least.Goals as goal

pub returns : goal.returns
returns c = hindered_gives_way
