use Rattle.std.proofs.Common.{◌+◌, ◌≤◌, ◌++◌, Ok}
use Rattle.std.specs.Prelude.{Result, IsTrue}
use Rattle.disk_model.specs.declared.disk.DiskError.{DiskError}
use Rattle.heap_program.specs.Causes.{PlaysDisk}
use Rattle.heap_core.specs.HeapState.{heap_disk}
use Rattle.heap_core.specs.Refinement.{IsCore, IsHeap}
use Rattle.heap_model.specs.Core.{Core}
use Rattle.image_plan.specs.declared.superblock.Super.{Super}
use Rattle.heap_program.specs.Play.{IsRunning}
use Rattle.session_program.proofs.PlayedLines.{SoFarOn}
use Rattle.session_program.proofs.SoFar.{SoFar}
use Rattle.session_program.proofs.serving.serve_lines.Given as goal

-- what the lines so far keep of the disk and the streams, and what was answered
abbrev pub invariant-loop-turn : goal.invariant-loop-turn
invariant-loop-turn g l =
    let s = g.S.Source in
    let k = g.K.Sink in
    let well : Result (Unit {0}) DiskError = Ok tt in
    record {
      disk : PlaysDisk g.D.Disk (heap_disk l.fn.heap) (heap_disk l.heap) well (Unit {0});
      source : s.faults l.fn.source ≤ s.faults l.source;
      sink : k.faults l.fn.sink ≤ k.faults l.sink;
      few : l.number ≤ l.turn + 1;
      core : (c : Core) → IsCore c l.fn.heap → IsRunning c → SoFar s.tells (l.fn.reader.held ++ s.left l.fn.source) c l.heap l.reader.passing (l.reader.held ++ s.left l.source) l.number k.tells (k.written l.fn.sink) (k.written l.sink);
      plays : IsTrue g.D.Disk.tells → (of : Super) (c : Core) → IsHeap of c l.fn.heap → IsRunning c → SoFarOn of s.tells (l.fn.reader.held ++ s.left l.fn.source) c l.fn.heap l.heap l.reader.passing (l.reader.held ++ s.left l.source) l.number k.tells (k.written l.fn.sink) (k.written l.sink);
    }
