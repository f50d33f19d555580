use Rattle.std.proofs.Common.{◌≡◌, map}
use Rattle.std.specs.Map.Iter.{deref}
use Rattle.object_locks.proofs.Addresses.{address_of}
use Rattle.object_locks.proofs.lock_table.LockTable.addresses.Given as goal

-- the addresses of the holdings visited so far
abbrev pub invariant-loop-holding : goal.invariant-loop-holding
invariant-loop-holding l = l.addresses.items ≡ map address_of (map deref l.yielded)
