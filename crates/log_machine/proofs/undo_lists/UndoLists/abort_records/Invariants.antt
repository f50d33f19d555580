use Rattle.std.proofs.Common.{◌≡◌, ◌++◌, map}
use Rattle.log_machine.specs.Machine.{abort_each}
use Rattle.log_machine.specs.Seen.{seen_loser}
use Rattle.log_machine.proofs.undo_lists.UndoLists.abort_records.Given as goal

abbrev pub invariant-loop-t : goal.invariant-loop-t
invariant-loop-t l = l.records.items ++ abort_each (map seen_loser l.t-iterator) ≡ abort_each (map seen_loser l.initial.t-iterator)
