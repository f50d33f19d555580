use Rattle.core_laws.proofs.Answers.Plain.{refused_room}
use Rattle.heap_theorems.proofs.histories.refuses_for_room_alone.Goals as goal

pub returns : goal.returns
returns c = refused_room
