use Rattle.std.proofs.Common.{◌-◌, ◌≤◌, Ok}
use Rattle.std.specs.Prelude.{IsTrue, Result}
use Rattle.disk_model.specs.declared.disk.DiskError.{DiskError}
use Rattle.heap_program.specs.Causes.{PlaysDisk}
use Rattle.image_plan.specs.declared.superblock.Super.{Super}
use Rattle.core_laws.proofs.Run.Aborting.{aborting_until}
use Rattle.heap_model.specs.Core.{Core}
use Rattle.heap_core.specs.HeapState.{heap_disk}
use Rattle.heap_core.specs.Refinement.{IsCore, IsHeap}
use Rattle.heap_program.specs.Play.{IsRunning, PlaysCore, Plays}
use Rattle.heap_program.proofs.play.play_aborts.Given as goal

-- what the aborts of the sessions so far, which ended well, keep of the disk and the sink, and what was played
abbrev pub invariant-loop-s : goal.invariant-loop-s
invariant-loop-s g l =
    let k = g.K.Sink in
    let well : Result (Unit {0}) DiskError = Ok tt in
    record {
      disk : PlaysDisk g.D.Disk (heap_disk l.fn.heap) (heap_disk l.heap) well (Unit {0});
      sink : k.faults l.fn.sink ≤ k.faults l.sink;
      core : (c : Core) → IsCore c l.fn.heap → IsRunning c → PlaysCore c (aborting_until (l.s - 1) c) l.heap k.tells (k.written l.fn.sink) (k.written l.sink) (Ok tt);
      plays : IsTrue g.D.Disk.tells → (of : Super) (c : Core) → IsHeap of c l.fn.heap → IsRunning c → Plays of c (aborting_until (l.s - 1) c) l.fn.heap l.heap k.tells (k.written l.fn.sink) (k.written l.sink) (Ok tt);
    }
