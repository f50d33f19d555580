-- What a transaction sees while its calls are made.
use Rattle.std.specs.Prelude.{◌≡◌}
use Rattle.graph_model.specs.declared.event.Event.{Event}
use Rattle.graph_model.specs.Graph.{Graph}
use Rattle.graph_model.specs.Transaction.{View, call}
use Rattle.sealed_graph.specs.declared.registers.Registers.{Registers}

-- the transaction's registers beside the graph, as the model's view
abbrev pub seen : Registers → Graph → View
seen registers g = record { graph = g; registers = registers.handles; made = registers.made }

-- A call left the transaction its number, and this is what it sees after it.
pub record Leaves (before : Registers) (g : Graph) (after : Registers) (h : Graph) (event : Event) : Type 0 where
  pub number : after.number ≡ before.number
  pub view : seen after h ≡ (call (seen before g) before.number event).view
