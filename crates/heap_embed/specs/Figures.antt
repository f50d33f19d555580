-- The figures of an open heap.
use Rattle.std.proofs.Common.{zero, suc}
use Rattle.std.specs.Prelude.{◌≡◌, ◌≢◌, ◌↔◌, ℕ, ◌+◌, ◌≤◌, [], length, min, is_some, unwrap_or, if◌then◌else◌}
use Rattle.counts.specs.Count.{greatest}
use Rattle.graph_model.specs.History.{account, sealed}
use Rattle.heap_model.specs.Core.{Core}

-- how many of the sessions from 1 to this number have a transaction
abbrev pub active_upto : Core → ℕ → ℕ
active_upto c zero = 0
active_upto c (suc s) = active_upto c s + (if is_some ((account c.history).active (suc s)) then 1 else 0)

-- Figure i of the heap that is this core: the entries of its history, its commits since it was made, whether records are pending, the entry at which
-- its disk failed or stopped, and how many of the 32 sessions have a transaction. There is no further one.
pub record IsFigure (c : Core) (i n : ℕ) : Type 0 where
  pub history : i ≡ 0 → n ≡ length c.history
  pub commits : i ≡ 1 → n ≡ min (c.before + length (sealed c.history)) greatest
  pub pending : i ≡ 2 → (n ≤ 1) × (n ≡ 1 ↔ (c.pending ≢ []))
  pub failed : i ≡ 3 → n ≡ unwrap_or (account c.history).failed 0
  pub active : i ≡ 4 → n ≡ active_upto c 32
  pub none : 5 ≤ i → n ≡ 0
