-- Why a run ends as it does.
use Rattle.std.specs.Prelude.{◌≡◌, ℕ, ◌+◌, ◌≤◌, List, IsTrue, Result, Ok, Err}
use Rattle.counts.specs.Count.{Rose}
use Rattle.disk_model.specs.declared.disk.Disk.{Ghosts}
use Rattle.disk_model.specs.declared.disk.DiskError.{DiskError}
use Rattle.disk_model.specs.declared.disk.DiskError.TheVariants as device
use Rattle.heap_core.specs.Causes.{WasCaused}
use Rattle.heap_program.specs.declared.play.Halt.{Halt}
use Rattle.heap_program.specs.declared.play.Halt.TheVariants as halt
use Rattle.script_text.specs.declared.script.ScriptError.TheVariants.{Fault}
use Rattle.heap_program.specs.declared.status.Status.{Status}
use Rattle.heap_program.specs.declared.status.Status.TheVariants as status
use Rattle.script_text.specs.Script.{script}

-- what the disk answered in a play
abbrev pub played_device : Result (Unit {0}) Halt → Result (Unit {0}) DiskError
played_device (Err halt.Stopped) = Err device.Stopped
played_device (Err halt.DiskFault) = Err device.Failed
played_device result = Ok tt

-- A disk's counts of faults and of stops are as they were.
pub record CountsStay {D : Type 0} (g : Ghosts D) (old new : D) : Type 0 where
  pub faults : g.faults new ≡ g.faults old
  pub stops : g.stops new ≡ g.stops old

-- What a play keeps of a disk: its size, what it was made of, and that it was not restarted. It ends in the disk's error only if that error's count
-- rose, and is done only if neither did; after an event that the disk cut short it may end for lack of memory, or in the sink's failure.
pub record PlaysDisk {D T : Type 0} (g : Ghosts D) (old new : D) (result : Result T DiskError) (done : Type 0) : Type 0 where
  pub extent : g.extent new ≡ g.extent old
  pub origin : g.origin new ≡ g.origin old
  pub cause : WasCaused (g.faults old) (g.faults new) (g.stops old) (g.stops new) result
  pub still : done → CountsStay g old new
  pub restarts : IsTrue g.tells → g.restarts new ≡ g.restarts old

-- The disk's faults and stops together rose.
abbrev pub DiskRose : ℕ → ℕ → ℕ → ℕ → Type 0
DiskRose faults stops faults' stops' = Rose (faults + stops) (faults' + stops')

-- A stream's count of faults didn't fall, and it rose if a call of that stream failed.
pub record StreamCause (before now : ℕ) (failed : Type 0) : Type 0 where
  pub kept : before ≤ now
  pub cause : failed → Rose before now

-- no call of the disk failed or found it stopped
abbrev pub Unharmed : {D : Type 0} (g : Ghosts D) → D → D → Type 0
Unharmed g old new = ¬ DiskRose (g.faults old) (g.stops old) (g.faults new) (g.stops new)

-- What a run keeps of a disk that it may restart: its size, and what it was made of. Its faults and stops together didn't fall, and
-- they rose if the run ended in the disk's fault.
pub record RunsDisk {D : Type 0} (g : Ghosts D) (old new : D) (failed : Type 0) : Type 0 where
  pub extent : g.extent new ≡ g.extent old
  pub origin : g.origin new ≡ g.origin old
  pub kept : g.faults old + g.stops old ≤ g.faults new + g.stops new
  pub cause : failed → DiskRose (g.faults old) (g.stops old) (g.faults new) (g.stops new)

-- Memory ran out, the script is bad, or the source failed.
abbrev pub IsInputError : Status → Type 0
IsInputError (status.Script line) = Unit {0}
IsInputError status.NoMemory = Unit {0}
IsInputError status.ReadFault = Unit {0}
IsInputError s = ⊥

-- The statuses that leave no room for a fault of the disk: all was done; the words, the script or the size was refused, before the disk was called; the
-- source failed, which is not read after an event that the disk cut short; or the image was refused, by an opening that met none. After such an event
-- memory may run out, or the output fail; and the disk's own fault is one.
abbrev pub IsFaultless : Status → Type 0
IsFaultless status.Done = Unit {0}
IsFaultless status.NoMemory = ⊥
IsFaultless status.Usage = Unit {0}
IsFaultless (status.Script line) = Unit {0}
IsFaultless status.ReadFault = Unit {0}
IsFaultless status.WriteFault = ⊥
IsFaultless status.DiskFault = ⊥
IsFaultless status.NotHeap = Unit {0}
IsFaultless (status.Damaged at) = Unit {0}
IsFaultless (status.TooSmall size need) = Unit {0}

-- Those of a load: the lines of its events go nowhere, so its output fails only at the summary, once all events were made without a fault.
abbrev pub IsFaultlessLoad : Status → Type 0
IsFaultlessLoad status.WriteFault = Unit {0}
IsFaultlessLoad s = IsFaultless s

-- The statuses of a run that has opened a disk, or could not.
abbrev pub IsOpenedEnd : Status → Type 0
IsOpenedEnd status.Done = Unit {0}
IsOpenedEnd status.NoMemory = Unit {0}
IsOpenedEnd status.WriteFault = Unit {0}
IsOpenedEnd status.DiskFault = Unit {0}
IsOpenedEnd status.NotHeap = Unit {0}
IsOpenedEnd (status.Damaged at) = Unit {0}
IsOpenedEnd s = ⊥

-- If a script is bad, reading it reports its first bad line.
abbrev pub FailsByScript : List ℕ → Status → Type 0
FailsByScript bytes (status.Script line) = script bytes ≡ Err (Fault line)
FailsByScript bytes s = Unit {0}

-- the disk that a call gives back either way
abbrev pub either_disk : {D : Type 0} → Result D D → D
either_disk (Ok disk) = disk
either_disk (Err disk) = disk
