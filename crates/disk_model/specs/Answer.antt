-- The answers of a disk's calls.
use Rattle.std.specs.Prelude.{Result, Ok, Err}
use Rattle.disk_model.specs.declared.disk.DiskError.{DiskError}
use Rattle.disk_model.specs.declared.disk.DiskError.TheVariants.{Failed}

-- a disk's answer, of which each error is a failure
abbrev pub as_failure : Result (Unit {0}) DiskError → Result (Unit {0}) DiskError
as_failure (Ok done) = Ok done
as_failure (Err error) = Err Failed
