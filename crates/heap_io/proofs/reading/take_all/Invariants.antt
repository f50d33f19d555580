use Rattle.std.proofs.Common.{◌≡◌, ◌-◌, ◌≤◌, ◌++◌, length, IsTrue}
use Rattle.heap_io.proofs.reading.take_all.Given as goal

abbrev pub invariant-loop-bytes : goal.invariant-loop-bytes
invariant-loop-bytes g l = record {
  within : length l.bytes.items ≤ l.most;
  kept : g.S.Source.faults l.initial.source ≤ g.S.Source.faults l.source;
  front : IsTrue g.S.Source.tells → g.S.Source.left l.initial.source ≡ l.bytes.items ++ g.S.Source.left l.source;
}

abbrev pub decreases-loop-bytes : goal.decreases-loop-bytes
decreases-loop-bytes g l = l.most - length l.bytes.items
