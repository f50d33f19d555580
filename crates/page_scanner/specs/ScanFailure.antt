-- The disk's error in the result of a scan, and a reading error as one of a scan.
use Rattle.std.specs.Prelude.{Option, Some, None, Result, Err}
use Rattle.disk_model.specs.declared.disk.DiskError.{DiskError}
use Rattle.object_layout.specs.declared.read_error.ReadError.{ReadError}
use Rattle.object_layout.specs.declared.read_error.ReadError.TheVariants as read
use Rattle.page_scanner.specs.declared.scan_error.ScanError.{ScanError}
use Rattle.page_scanner.specs.declared.scan_error.ScanError.TheVariants.{Disk, NoMemory}

-- the disk's error, if it is one
abbrev pub scan_failure : {T : Type 0} → Result T ScanError → Option DiskError
scan_failure (Err (Disk error)) = Some error
scan_failure result = None

-- a reading error
abbrev pub scan_error : ReadError → ScanError
scan_error (read.Disk error) = Disk error
scan_error read.NoMemory = NoMemory
