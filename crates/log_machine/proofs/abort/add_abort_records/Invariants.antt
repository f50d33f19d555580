use Rattle.std.proofs.Common.{◌≡◌, reverse, ◌++◌}
use Rattle.log_machine.specs.Machine.{abort_records as aborting}
use Rattle.log_machine.proofs.abort.add_abort_records.Given as goal

abbrev pub invariant-loop-entry : goal.invariant-loop-entry
invariant-loop-entry l = l.records.items ++ aborting l.t (reverse l.entry-iterator.iter.rest.now) ≡ l.fn.records.items ++ aborting l.t (reverse l.undo)
