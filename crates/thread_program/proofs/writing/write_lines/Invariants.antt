use Rattle.std.proofs.Common.{◌≡◌, ◌≤◌, ◌++◌, IsTrue}
use Rattle.heap_program.specs.Play.{lines_text}
use Rattle.thread_program.proofs.writing.write_lines.Given as goal

-- the lines of the entries so far were written
abbrev pub invariant-loop-entry : goal.invariant-loop-entry
invariant-loop-entry g l = record {
  left : l.history.entries ≡ l.yielded ++ l.entry-iterator;
  kept : g.K.Sink.faults l.fn.sink ≤ g.K.Sink.faults l.sink;
  wrote : IsTrue g.K.Sink.tells → g.K.Sink.written l.sink ≡ g.K.Sink.written l.fn.sink ++ lines_text l.yielded;
}
