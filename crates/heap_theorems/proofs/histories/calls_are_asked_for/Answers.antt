use Rattle.heap_model.proofs.Run.Calls.{calls-saves}
use Rattle.heap_theorems.proofs.histories.calls_are_asked_for.Goals as goal

pub returns : goal.returns
returns c = calls-saves
