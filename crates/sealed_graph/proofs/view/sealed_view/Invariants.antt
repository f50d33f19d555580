use Rattle.graph_model.specs.History.{account}
use Rattle.sealed_graph.specs.Told.{TellsOf}
use Rattle.sealed_graph.proofs.view.sealed_view.Given as goal

-- the entries so far have been read
abbrev pub invariant-loop-entry : goal.invariant-loop-entry
invariant-loop-entry l = TellsOf l.fn.first (account l.yielded) l.reading
