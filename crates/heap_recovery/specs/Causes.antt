-- What the disk answered in an opening.
use Rattle.std.specs.Prelude.{Result, Ok, Err}
use Rattle.disk_model.specs.declared.disk.DiskError.{DiskError}
use Rattle.heap_recovery.specs.declared.error.RecoverError.{RecoverError}
use Rattle.heap_recovery.specs.declared.error.RecoverError.TheVariants as opening

-- what the disk answered in an opening
abbrev pub error_device : RecoverError → Result (Unit {0}) DiskError
error_device (opening.Disk e) = Err e
error_device e = Ok tt

abbrev pub open_device : {T : Type 0} → Result T RecoverError → Result (Unit {0}) DiskError
open_device (Ok x) = Ok tt
open_device (Err e) = error_device e
