use Rattle.graph_model.specs.History.{account}
use Rattle.heap_history.specs.Told.{TellsOf}
use Rattle.heap_history.proofs.history.History.commits.Given as goal

-- the entries so far have been read
abbrev pub invariant-loop-entry : goal.invariant-loop-entry
invariant-loop-entry l = TellsOf (account l.yielded) l.reading
