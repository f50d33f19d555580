-- Which transactions are active in a core.
use Rattle.std.proofs.Common.{ℕ, Option}
use Rattle.graph_model.specs.History.{account}
use Rattle.graph_model.specs.Transaction.{Transaction}
use Rattle.heap_model.specs.Core.{Core}

-- the transaction of a session
abbrev pub active_in : Core → ℕ → Option Transaction
active_in c s = (account c.history).active s
