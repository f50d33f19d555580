use Rattle.std.proofs.Common.{ℕ, ◌-◌, ◌≤◌, List, Ok}
use Rattle.std.specs.Prelude.{IsTrue}
use Rattle.disk_model.specs.Disk.{WidensBy, SameOutside}
use Rattle.disk_model.specs.Keeps.{KeepsDisk}
use Rattle.disk_model.specs.Moments.{LeavesOnly}
use Rattle.heap_core.specs.Format.{AreZero, zero_writes}
use Rattle.heap_core.proofs.Calls.{SoFar}
use Rattle.heap_core.proofs.formatting.write_zeros.Given as goal

-- up to `at` the bytes are zero, and all else is as it was
abbrev pub invariant-loop-at : goal.invariant-loop-at
invariant-loop-at g l =
    let d = g.D.Disk in
    record {
      low : l.from ≤ l.at;
      high : l.at ≤ l.end;
      zero : IsTrue d.tells → AreZero l.from l.at (d.bytes l.disk);
      outside : IsTrue d.tells → SameOutside l.from l.end (d.bytes l.fn.disk) (d.bytes l.disk);
      crash : IsTrue d.tells → WidensBy (SameOutside l.from l.end) (d.may_leave l.fn.disk) (d.may_leave l.disk);
      moments : IsTrue d.tells → LeavesOnly d.moment d.left_since l.fn.disk l.disk (λ c. (o : List ℕ) × d.may_leave l.fn.disk o × SameOutside l.from l.end o c);
      calls : IsTrue d.tells → SoFar (zero_writes (l.end - l.from)) (zero_writes (l.end - l.at)) (d.passed l.fn.disk) (d.passed l.disk);
      disk : KeepsDisk {T = Unit {0}} d l.fn.disk l.disk (Ok tt);
    }

abbrev pub decreases-loop-at : goal.decreases-loop-at
decreases-loop-at g l = l.end - l.at
