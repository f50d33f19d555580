use Rattle.std.proofs.Common.{◌≡◌, map}
use Rattle.std.specs.FinSet as set
use Rattle.std.specs.Map.Iter.{deref}
use Rattle.object_locks.specs.Holdings.{moved_with}
use Rattle.object_locks.proofs.lock_table.LockTable.rekey.Given as goal

-- the holdings visited so far have moved
abbrev pub invariant-loop-holding : goal.invariant-loop-holding
invariant-loop-holding l = l.table ≡ set.from_list (map (moved_with l.fn.pairs) (map deref l.yielded))
