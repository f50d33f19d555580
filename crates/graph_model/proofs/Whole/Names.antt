-- What transactions see of graphs in which no reference dangles.
use Rattle.std.specs.Prelude.{◌≡◌, ℕ, ◌<◌, ◌≤◌, length, Some}
use Rattle.graph_model.specs.declared.id.Id.{Id}
use Rattle.graph_model.specs.Graph.{Graph, fields}
use Rattle.graph_model.specs.Transaction.{View, held}
use Rattle.graph_model.specs.ClosedGraph.{IsThere, IsClosed}

-- A transaction sees a closed graph, and its handles hold objects of it.
pub record SeesClosed (v : View) : Type 0 where
  pub graph : IsClosed v.graph
  pub handles : (h : ℕ) (id : Id) → held v.registers h ≡ Some id → IsThere v.graph id

-- the name is one of the first `made` that transaction t gives
pub record IsNameOf (t made : ℕ) (id : Id) : Type 0 where
  pub maker : id.t ≡ t
  pub from : 1 ≤ id.k
  pub to : id.k ≤ made

-- each object is the root or was made by a transaction with a number below n
abbrev pub AreBelow : Graph → ℕ → Type 0
AreBelow g n = (id : Id) → IsThere g id → id.t < n

-- Handle h holds this object, which has a field i.
pub record HoldsField (v : View) (h i : ℕ) (id : Id) : Type 0 where
  pub holds : held v.registers h ≡ Some id
  pub within : i < length (fields v.graph id)
