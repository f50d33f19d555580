-- What the program says of how a run ended.
use Rattle.std.specs.Prelude.{ℕ, List, ◌++◌, codes}
use Rattle.std.specs.Fmt.{decimal}
use Rattle.heap_recovery.specs.At.{at_text}
use Rattle.heap_program.specs.declared.status.Status.{Status}
use Rattle.heap_program.specs.declared.status.Status.TheVariants.{Done, NoMemory, Usage, Script, ReadFault, WriteFault, DiskFault, NotHeap, Damaged, TooSmall}

abbrev pub status_text : Status → List ℕ
status_text Done = codes "done"
status_text NoMemory = codes "out of memory"
status_text Usage = codes "usage: heap_shell format|play|threads|graph|load"
status_text (Script line) = codes "script fault at line " ++ decimal line
status_text ReadFault = codes "cannot read the script"
status_text WriteFault = codes "cannot write the output"
status_text DiskFault = codes "the disk failed"
status_text NotHeap = codes "not a heap"
status_text (Damaged at) = codes "damaged at " ++ at_text at
status_text (TooSmall size need) = codes "too small: " ++ decimal size ++ codes " of " ++ decimal need

-- the exit status
abbrev pub status_code : Status → ℕ
status_code Done = 0
status_code NoMemory = 1
status_code Usage = 2
status_code (Script line) = 3
status_code ReadFault = 4
status_code WriteFault = 5
status_code DiskFault = 6
status_code NotHeap = 7
status_code (Damaged at) = 8
status_code (TooSmall size need) = 9
