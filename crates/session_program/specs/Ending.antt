-- Why a session ends before its input does.
use Rattle.std.specs.Prelude.{Result, Ok, Err}
use Rattle.disk_model.specs.declared.disk.DiskError.{DiskError}
use Rattle.heap_program.specs.declared.play.Halt.TheVariants as halt
use Rattle.heap_program.specs.declared.status.Status.{Status}
use Rattle.heap_program.specs.declared.status.Status.TheVariants as status
use Rattle.heap_program.specs.Causes.{played_device}
use Rattle.heap_program.specs.StatusOf.{halt_status}
use Rattle.line_reader.specs.declared.reader.LineError.{LineError}
use Rattle.line_reader.specs.declared.reader.LineError.TheVariants as reading
use Rattle.session_program.specs.declared.ending.Break.{Break}
use Rattle.session_program.specs.declared.ending.Break.TheVariants.{Halted, ReadFault}
use Rattle.session_program.specs.declared.parts.Next.{Next}
use Rattle.session_program.specs.declared.parts.Next.TheVariants as next

-- why no line was read
abbrev pub line_break : LineError → Break
line_break reading.NoMemory = Halted halt.NoMemory
line_break reading.SourceFailed = ReadFault

-- the status of a session that ends so
abbrev pub break_status : Break → Status
break_status (Halted h) = halt_status h
break_status ReadFault = status.ReadFault

-- also at the end of its input
abbrev pub session_status : Result Next Break → Status
session_status (Ok next) = status.Done
session_status (Err b) = break_status b

-- what the disk answered in it
abbrev pub session_device : Result Next Break → Result (Unit {0}) DiskError
session_device (Err (Halted h)) = played_device (Err h)
session_device result = Ok tt

-- No event of it was cut short: it came to its end or to a line that parts it, or the next line could not be read.
abbrev pub IsUncut : Result Next Break → Type 0
IsUncut (Ok next) = Unit {0}
IsUncut (Err (Halted h)) = ⊥
IsUncut (Err ReadFault) = Unit {0}

-- what follows it
abbrev pub next_of : Result Next Break → Next
next_of (Ok n) = n
next_of (Err b) = next.End

-- The statuses of a session.
abbrev pub IsSessionEnd : Status → Type 0
IsSessionEnd status.Done = Unit {0}
IsSessionEnd status.NoMemory = Unit {0}
IsSessionEnd status.ReadFault = Unit {0}
IsSessionEnd status.WriteFault = Unit {0}
IsSessionEnd status.DiskFault = Unit {0}
IsSessionEnd status.NotHeap = Unit {0}
IsSessionEnd (status.Damaged at) = Unit {0}
IsSessionEnd s = ⊥
