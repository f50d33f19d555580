use Rattle.core_laws.proofs.Answers.Plain.{answer_plain}
use Rattle.heap_theorems.proofs.histories.answers.Goals as goal

pub returns : goal.returns
returns c = answer_plain
