-- A call that takes a disk and gives it back, even with an error.
use Rattle.std.specs.Prelude.{Result, Ok, Err, ⊤}
use Rattle.disk_model.specs.declared.disk.DiskError.{DiskError}
use Rattle.disk_model.specs.declared.disk.DiskError.TheVariants as device
use Rattle.heap_core.specs.declared.errors.FormatError.{FormatError}
use Rattle.heap_core.specs.declared.errors.FormatError.TheVariants.{TooSmall, DiskFault, Stopped}

-- the disk that a format gives back
abbrev pub given_back : {D : Type 0} → Result D (FormatError × D) → D
given_back (Ok disk) = disk
given_back (Err e) = e.1

-- the error of a format for each error of the disk
abbrev pub format_error : DiskError → FormatError
format_error device.Failed = DiskFault
format_error device.Stopped = Stopped

-- what the disk answered in a format
abbrev pub format_device : FormatError → Result (Unit {0}) DiskError
format_device (TooSmall size need) = Ok tt
format_device DiskFault = Err device.Failed
format_device Stopped = Err device.Stopped

abbrev pub made_device : {T : Type 0} → Result T FormatError → Result (Unit {0}) DiskError
made_device (Ok made) = Ok tt
made_device (Err e) = format_device e

abbrev pub device_result : {D : Type 0} → Result D (FormatError × D) → Result (Unit {0}) DiskError
device_result (Ok disk) = Ok tt
device_result (Err e) = format_device e.0

-- the disk's error
abbrev pub IsFromDisk : FormatError → Type 0
IsFromDisk (TooSmall size need) = ⊥
IsFromDisk DiskFault = ⊤
IsFromDisk Stopped = ⊤
