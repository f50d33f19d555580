use Rattle.std.proofs.Common.{◌≡◌, ◌≢◌}
use Rattle.std.specs.FinSet as set
use Rattle.object_locks.specs.declared.holding.Holding.{Holding}
use Rattle.object_locks.proofs.lock_table.LockTable.release.Given as goal

-- what the others hold stays
abbrev pub invariant-loop-holding : goal.invariant-loop-holding
invariant-loop-holding l = (h : Holding) → h.transaction ≢ l.t → set.contains l.self h ≡ set.contains l.initial.self h

abbrev pub decreases-loop-holding : goal.decreases-loop-holding
decreases-loop-holding l = set.len l.self
