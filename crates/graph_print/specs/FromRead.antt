-- A reading error as an error of printing.
use Rattle.object_layout.specs.declared.read_error.ReadError.{ReadError}
use Rattle.object_layout.specs.declared.read_error.ReadError.TheVariants as read
use Rattle.graph_print.specs.declared.print_error.PrintError.{PrintError}
use Rattle.graph_print.specs.declared.print_error.PrintError.TheVariants.{Disk, NoMemory}

abbrev pub print_error : ReadError → PrintError
print_error (read.Disk error) = Disk error
print_error read.NoMemory = NoMemory
