-- A fuse, as its callers see it.
use Rattle.std.specs.Prelude.{◌≡◌, ◌≢◌, ℕ, ◌+◌}
use Rattle.counts.specs.Count.{raised}
use Rattle.disk_model.specs.declared.disk.Disk.{Ghosts}
use Rattle.disk_model.specs.declared.fuse.FuseDisk.{FuseDisk}

-- What a fuse is made of: a disk, as it was then, what that was made of, and how many writes and syncs are let through to it.
pub record FuseOrigin (D Inside : Type 0) : Type 0 where
  pub disk : D
  pub inside : Inside
  pub limit : ℕ

module _ {D : Type 0} {g : Ghosts D} where
  -- the disk inside
  abbrev pub fuse_inner : FuseDisk D g → D
  fuse_inner fuse = fuse.inner

  -- what it was made of
  abbrev pub fuse_origin : FuseDisk D g → FuseOrigin D g.Origin
  fuse_origin fuse = record { disk = fuse.began.value; inside = g.origin fuse.inner; limit = fuse.limit }

  -- how many writes and syncs it lets through
  abbrev pub fuse_limit : FuseDisk D g → ℕ
  fuse_limit fuse = fuse.limit

  -- how many it has let through
  abbrev pub fuse_passed : FuseDisk D g → ℕ
  fuse_passed fuse = fuse.passed

  -- how often it answered `Stopped`
  abbrev pub fuse_stops : FuseDisk D g → ℕ
  fuse_stops fuse = fuse.stops

  -- the next write or sync stops
  abbrev pub IsSpent : FuseDisk D g → Type 0
  IsSpent fuse = fuse_passed fuse ≡ fuse_limit fuse

  -- it has stopped, and everything stops from now on
  abbrev pub IsBlown : FuseDisk D g → Type 0
  IsBlown fuse = fuse_stops fuse ≢ 0

  -- A call found the disk stopped: it does nothing but count that.
  pub record Stops (old new : FuseDisk D g) : Type 0 where
    pub inner : fuse_inner new ≡ fuse_inner old
    pub passed : fuse_passed new ≡ fuse_passed old
    pub stops : fuse_stops new ≡ raised (fuse_stops old)

  -- A write or a sync went through to the disk inside.
  pub record LetsThrough (old new : FuseDisk D g) : Type 0 where
    pub passed : fuse_passed new ≡ fuse_passed old + 1
    pub stops : fuse_stops new ≡ fuse_stops old

  -- A read or a restart went through to the disk inside.
  pub record Reaches (old new : FuseDisk D g) : Type 0 where
    pub passed : fuse_passed new ≡ fuse_passed old
    pub stops : fuse_stops new ≡ fuse_stops old
