-- The disk's error in the result of a print.
use Rattle.std.specs.Prelude.{Option, Some, None, Result, Err}
use Rattle.disk_model.specs.declared.disk.DiskError.{DiskError}
use Rattle.graph_print.specs.declared.print_error.PrintError.{PrintError}
use Rattle.graph_print.specs.declared.print_error.PrintError.TheVariants.{Disk}

-- the disk's error, if it is one
abbrev pub print_failure : {T : Type 0} → Result T PrintError → Option DiskError
print_failure (Err (Disk error)) = Some error
print_failure result = None
