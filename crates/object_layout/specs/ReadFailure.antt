-- The disk's error in the result of reading several words.
use Rattle.std.specs.Prelude.{Option, Some, None, Result, Err}
use Rattle.disk_model.specs.declared.disk.DiskError.{DiskError}
use Rattle.object_layout.specs.declared.read_error.ReadError.{ReadError}
use Rattle.object_layout.specs.declared.read_error.ReadError.TheVariants.{Disk}

-- the disk's error, if it is one
abbrev pub read_failure : {T : Type 0} → Result T ReadError → Option DiskError
read_failure (Err (Disk error)) = Some error
read_failure result = None
