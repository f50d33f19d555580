use Rattle.std.proofs.Common.{◌≡◌, ◌++◌}
use Rattle.log_machine.proofs.undo_lists.UndoLists.losers.Given as goal

abbrev pub invariant-loop-t : goal.invariant-loop-t
invariant-loop-t l = l.losers.items ++ l.t-iterator ≡ l.initial.t-iterator
