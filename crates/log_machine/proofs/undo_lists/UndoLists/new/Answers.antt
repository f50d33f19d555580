use Rattle.log_machine.proofs.Lists.{kept_empty}
use Rattle.log_machine.proofs.undo_lists.UndoLists.new.Goals as goal

pub invariant_of-result : goal.invariant_of-result
invariant_of-result c = kept_empty c.new.result.entries c.new.ensures.empty
