-- The disk's error in the result of planning a flip, and a reading error as one of a flip.
use Rattle.std.specs.Prelude.{Option, Some, None, Result, Err}
use Rattle.disk_model.specs.declared.disk.DiskError.{DiskError}
use Rattle.object_layout.specs.declared.read_error.ReadError.{ReadError}
use Rattle.object_layout.specs.declared.read_error.ReadError.TheVariants as read
use Rattle.flip_copy.specs.declared.flip_error.FlipError.{FlipError}
use Rattle.flip_copy.specs.declared.flip_error.FlipError.TheVariants.{Disk, NoMemory}

-- the disk's error, if it is one
abbrev pub flip_failure : {T : Type 0} → Result T FlipError → Option DiskError
flip_failure (Err (Disk error)) = Some error
flip_failure result = None

-- a reading error
abbrev pub flip_error : ReadError → FlipError
flip_error (read.Disk error) = Disk error
flip_error read.NoMemory = NoMemory
