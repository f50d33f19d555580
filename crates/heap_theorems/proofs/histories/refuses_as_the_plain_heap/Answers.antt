use Rattle.core_laws.proofs.Answers.Plain.{refused_plain}
use Rattle.heap_theorems.proofs.histories.refuses_as_the_plain_heap.Goals as goal

pub returns : goal.returns
returns c = refused_plain
