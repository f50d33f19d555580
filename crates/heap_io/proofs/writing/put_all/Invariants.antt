use Rattle.std.proofs.Common.{◌≡◌, ◌-◌, ◌≤◌, ◌++◌, length, take, IsTrue}
use Rattle.heap_io.proofs.writing.put_all.Given as goal

abbrev pub invariant-loop-done : goal.invariant-loop-done
invariant-loop-done g l = record {
  within : l.done ≤ length l.bytes;
  kept : g.K.Sink.faults l.initial.sink ≤ g.K.Sink.faults l.sink;
  front : IsTrue g.K.Sink.tells → g.K.Sink.written l.sink ≡ g.K.Sink.written l.initial.sink ++ take l.done l.bytes;
}

abbrev pub decreases-loop-done : goal.decreases-loop-done
decreases-loop-done g l = length l.bytes - l.done
