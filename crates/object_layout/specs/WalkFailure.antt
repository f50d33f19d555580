-- The disk's error in the result of a walk.
use Rattle.std.specs.Prelude.{Option, Some, None, Result, Err}
use Rattle.disk_model.specs.declared.disk.DiskError.{DiskError}
use Rattle.object_layout.specs.declared.walk_error.WalkError.{WalkError}
use Rattle.object_layout.specs.declared.walk_error.WalkError.TheVariants.{Disk}

-- the disk's error, if it is one
abbrev pub walk_failure : {T : Type 0} → Result T WalkError → Option DiskError
walk_failure (Err (Disk error)) = Some error
walk_failure result = None
