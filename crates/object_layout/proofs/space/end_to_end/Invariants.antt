use Rattle.std.proofs.Common.{◌-◌, ◌≤◌, take}
use Rattle.std.specs.Prelude.{IsTrue, None}
use Rattle.object_layout.specs.Read.{IsRead}
use Rattle.object_layout.specs.Walk.{AreEndToEnd}
use Rattle.object_layout.proofs.space.end_to_end.Given as goal

abbrev pub decreases-loop-at : goal.decreases-loop-at
decreases-loop-at g l = l.end - l.at

abbrev pub invariant-loop-at : goal.invariant-loop-at
invariant-loop-at g l = record {
  read : IsRead g.W.Words.tells g.W.Words.extent g.W.Words.content g.W.Words.keeps g.W.Words.faults g.W.Words.stops l.initial.words l.words None;
  before : l.from ≤ l.end → l.at ≤ l.end;
  objects : IsTrue g.W.Words.tells → AreEndToEnd (take l.end (g.W.Words.content l.initial.words)) l.from l.starts.items l.at;
}
