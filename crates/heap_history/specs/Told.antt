-- What the reading of a history keeps.
use Rattle.std.specs.Prelude.{◌≡◌, ℕ}
use Rattle.std.specs.Ordering.{nat_cmp}
use Rattle.std.specs.BTreeMap as tree
use Rattle.graph_model.specs.History.{Account}
use Rattle.heap_history.specs.declared.reading.Reading.{Reading}

-- It has what the history so far says of transactions.
pub record TellsOf (a : Account) (reading : Reading) : Type 0 where
  pub active : (s : ℕ) → tree.get nat_cmp reading.active s ≡ a.active s
  pub sealed : reading.sealed.items ≡ a.sealed
  pub in_doubt : reading.in_doubt ≡ a.in_doubt

-- the next reading is that of an account one step later
abbrev pub KeepsReading : (Account → Account) → Reading → Reading → Type 0
KeepsReading step old new = (a : Account) → TellsOf a old → TellsOf (step a) new
