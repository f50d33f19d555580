use Rattle.std.proofs.Common.{◌≡◌, drop}
use Rattle.graph_model.specs.Transaction.{after_calls, run}
use Rattle.sealed_graph.specs.Runs.{seen}
use Rattle.sealed_graph.proofs.registers.run.Given as goal

-- the calls that are left lead to what the whole run does
abbrev pub invariant-loop-call : goal.invariant-loop-call
invariant-loop-call l = (l.registers.number ≡ l.transaction.number) × (after_calls (seen l.registers l.graph) l.transaction.number (drop l.call-index l.call-items) ≡ run l.fn.graph l.transaction)
