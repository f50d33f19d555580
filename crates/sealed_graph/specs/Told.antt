-- What the reading of a history keeps.
use Rattle.std.specs.Prelude.{◌≡◌, ℕ}
use Rattle.std.specs.Ordering.{nat_cmp}
use Rattle.std.specs.BTreeMap as tree
use Rattle.graph_model.specs.Graph.{Graph}
use Rattle.graph_model.specs.Transaction.{serial}
use Rattle.graph_model.specs.History.{Account}
use Rattle.sealed_graph.specs.declared.reading.Reading.{Reading}

-- It has what the history says so far of transactions: those that are active, and what the sealed ones left of the first graph.
pub record TellsOf (first : Graph) (a : Account) (reading : Reading) : Type 0 where
  pub active : (s : ℕ) → tree.get nat_cmp reading.active s ≡ a.active s
  pub graph : reading.graph ≡ serial first a.sealed

-- the next reading is that of an account one step on
abbrev pub KeepsReading : (Account → Account) → Reading → Reading → Type 0
KeepsReading step old new = (first : Graph) (a : Account) → TellsOf first a old → TellsOf first (step a) new
