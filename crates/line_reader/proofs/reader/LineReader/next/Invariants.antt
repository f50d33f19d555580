use Rattle.std.proofs.Common.{◌≡◌, ◌-◌, ◌≤◌, ◌++◌, length, IsTrue}
use Rattle.line_reader.specs.Taking.{HasLine}
use Rattle.line_reader.proofs.reader.LineReader.next.Given as goal

-- the stream that the reader and its source have together stays
abbrev pub invariant-loop-self : goal.invariant-loop-self
invariant-loop-self g l = record {
  stream : IsTrue g.S.Source.tells → l.self.held ++ g.S.Source.left l.source ≡ l.initial.self.held ++ g.S.Source.left l.initial.source;
  passing : l.self.passing ≡ l.initial.self.passing;
  held : HasLine l.initial.self.held → (l.source ≡ l.initial.source) × (l.self ≡ l.initial.self);
  kept : g.S.Source.faults l.initial.source ≤ g.S.Source.faults l.source;
}

abbrev pub decreases-loop-self : goal.decreases-loop-self
decreases-loop-self g l = 1056769 - length l.self.held
