use Rattle.std.proofs.Common.{◌≡◌, ◌≤◌, List, ◌++◌, Ok}
use Rattle.std.specs.Prelude.{IsTrue, Result}
use Rattle.disk_model.specs.declared.disk.DiskError.{DiskError}
use Rattle.heap_program.specs.Causes.{PlaysDisk}
use Rattle.image_plan.specs.declared.superblock.Super.{Super}
use Rattle.heap_model.specs.Core.{Core}
use Rattle.heap_core.specs.HeapState.{heap_disk}
use Rattle.heap_core.specs.Refinement.{IsCore, IsHeap}
use Rattle.heap_program.specs.Play.{IsRunning, PlaysCore, Plays}
use Rattle.script_text.specs.declared.line.Line.{Line}
use Rattle.script_text.specs.Line.{events}
use Rattle.script_text.specs.Loading.{lines_left, rounds_left}
use Rattle.heap_program.proofs.rounds.play_rounds.Given as goal

-- what the rounds so far, which ended well, keep of the disk and the sink, and what was played
abbrev pub invariant-rounds : goal.invariant-rounds
invariant-rounds g l =
    let k = g.K.Sink in
    let well : Result (Unit {0}) DiskError = Ok tt in
    (done : List Line)
    × (lines_left l.fn.load ≡ done ++ lines_left l.load)
    × PlaysDisk g.D.Disk (heap_disk l.fn.heap) (heap_disk l.heap) well (Unit {0})
    × (k.faults l.fn.sink ≤ k.faults l.sink)
    × ((c : Core) → IsCore c l.fn.heap → IsRunning c → PlaysCore c (events done) l.heap k.tells (k.written l.fn.sink) (k.written l.sink) (Ok tt))
    × (IsTrue g.D.Disk.tells → (of : Super) (c : Core) → IsHeap of c l.fn.heap → IsRunning c → Plays of c (events done) l.fn.heap l.heap k.tells (k.written l.fn.sink) (k.written l.sink) (Ok tt))

abbrev pub decreases-rounds : goal.decreases-rounds
decreases-rounds g l = rounds_left l.load
