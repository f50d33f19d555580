-- The status that an error ends a run with.
use Rattle.command_words.specs.declared.commands.CommandError.{CommandError}
use Rattle.command_words.specs.declared.commands.CommandError.TheVariants as asking
use Rattle.heap_io.specs.declared.reading.TakeAllError.{TakeAllError}
use Rattle.heap_io.specs.declared.reading.TakeAllError.TheVariants as taking
use Rattle.heap_core.specs.declared.errors.FormatError.{FormatError}
use Rattle.heap_core.specs.declared.errors.FormatError.TheVariants as format
use Rattle.heap_core.specs.declared.errors.OpenError.{OpenError}
use Rattle.heap_core.specs.declared.errors.OpenError.TheVariants as opening
use Rattle.script_text.specs.declared.script.ScriptError.{ScriptError}
use Rattle.script_text.specs.declared.script.ScriptError.TheVariants as reading
use Rattle.heap_program.specs.declared.output.WriteError.{WriteError}
use Rattle.heap_program.specs.declared.output.WriteError.TheVariants as writing
use Rattle.heap_program.specs.declared.play.Halt.{Halt}
use Rattle.heap_program.specs.declared.play.Halt.TheVariants as halt
use Rattle.heap_program.specs.declared.status.Status.{Status}
use Rattle.heap_program.specs.declared.status.Status.TheVariants.{NoMemory, Usage, Script, ReadFault, WriteFault, DiskFault, NotHeap, Damaged, TooSmall}

abbrev pub command_status : CommandError → Status
command_status asking.NoMemory = NoMemory
command_status asking.Usage = Usage

abbrev pub script_status : ScriptError → Status
script_status reading.NoMemory = NoMemory
script_status (reading.Fault line) = Script line

abbrev pub input_status : TakeAllError → Status
input_status taking.NoMemory = NoMemory
input_status taking.SourceFailed = ReadFault
input_status taking.TooLong = Script 0

abbrev pub format_status : FormatError → Status
format_status (format.TooSmall size need) = TooSmall size need
format_status format.DiskFault = DiskFault
format_status format.Stopped = DiskFault

abbrev pub open_status : OpenError → Status
open_status opening.NoMemory = NoMemory
open_status opening.NotHeap = NotHeap
open_status (opening.Damaged at) = Damaged at
open_status opening.DiskFault = DiskFault
open_status opening.Stopped = DiskFault

abbrev pub write_status : WriteError → Status
write_status writing.NoMemory = NoMemory
write_status writing.SinkFailed = WriteFault

-- a disk that stopped without being asked to counts as failed
abbrev pub halt_status : Halt → Status
halt_status halt.NoMemory = NoMemory
halt_status halt.WriteFault = WriteFault
halt_status halt.DiskFault = DiskFault
halt_status halt.Stopped = DiskFault

-- why a play goes no further whose line was not written
abbrev pub write_halt : WriteError → Halt
write_halt writing.NoMemory = halt.NoMemory
write_halt writing.SinkFailed = halt.WriteFault
