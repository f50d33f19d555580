-- What is kept in memory of a core's transactions.
use Rattle.std.proofs.Common.{◌≡◌, ℕ, Option, None, Some, is_some, refl, ap, ◌∙◌}
use Rattle.graph_model.specs.Graph.{Graph}
use Rattle.graph_model.specs.History.{Account}
use Rattle.graph_model.specs.Transaction.{Transaction}
use Rattle.heap_memory.specs.Memory.{Memory, own}
use Rattle.heap_model.specs.Core.{Core, Ground, ground}
use Rattle.memory_laws.specs.CoreMemory.{IsMemory, kept_of}

is_some_kept : (g : Ground) (g0 : Graph) (a : Account) (o : Option Transaction) → is_some (kept_of g g0 a o) ≡ is_some o
is_some_kept g g0 a None = refl
is_some_kept g g0 a (Some t) = refl

-- one is kept of a session that has one
pub is_some_own : (m : Memory) (a : Account) (c : Core) → IsMemory m a c → (s : ℕ) → is_some (own m s) ≡ is_some (a.active s)
is_some_own m a c is s = ap is_some (is.sessions.transactions s) ∙ is_some_kept (ground c) c.g0 a (a.active s)
