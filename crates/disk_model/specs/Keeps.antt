-- What every call keeps of a disk, and what else a call that only reads keeps.
use Rattle.std.specs.Prelude.{◌≡◌, IsTrue, Result}
use Rattle.disk_model.specs.Disk.{Narrows, HasCause}
use Rattle.disk_model.specs.Moments.{LeavesOnly}
use Rattle.disk_model.specs.declared.disk.Disk.{Ghosts}
use Rattle.disk_model.specs.declared.disk.DiskError.{DiskError}

-- Every call, and every run of them that ends at its first error, keeps the disk's size and what it was made of, and a count rose exactly where
-- that count's error is returned. A modelled disk was not restarted.
pub record KeepsDisk {D T : Type 0} (g : Ghosts D) (old new : D) (result : Result T DiskError) : Type 0 where
  pub extent : g.extent new ≡ g.extent old
  pub origin : g.origin new ≡ g.origin old
  pub cause : HasCause (g.faults old) (g.faults new) (g.stops old) (g.stops new) result
  pub restarts : IsTrue g.tells → g.restarts new ≡ g.restarts old

-- Nothing was written: a read gives the same bytes, a crash leaves no image that it couldn't have left before, at no
-- moment, and no write or sync has passed.
pub record SameContents {D : Type 0} (g : Ghosts D) (old new : D) : Type 0 where
  pub bytes : g.bytes new ≡ g.bytes old
  pub crash : Narrows (g.may_leave old) (g.may_leave new)
  pub moments : LeavesOnly g.moment g.left_since old new (g.may_leave old)
  pub passed : g.passed new ≡ g.passed old

-- A call, or a run of them, that only reads: it keeps the disk, writes nothing, and the first stop is never one of its own.
pub record OnlyReads {D T : Type 0} (g : Ghosts D) (old new : D) (result : Result T DiskError) : Type 0 where
  pub disk : KeepsDisk g old new result
  pub contents : IsTrue g.tells → SameContents g old new
  pub no_first_stop : g.stops old ≡ 0 → g.stops new ≡ 0
