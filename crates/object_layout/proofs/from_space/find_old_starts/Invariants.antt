use Rattle.std.proofs.Common.{◌≡◌, ◌+◌, ◌-◌, ◌≤◌}
use Rattle.std.specs.Prelude.{IsTrue, None}
use Rattle.object_layout.specs.Read.{IsRead}
use Rattle.object_layout.specs.Walk.{AreAscending}
use Rattle.object_layout.specs.CollectionWalk.{given, words_moved, AreOldObjects}
use Rattle.object_layout.proofs.from_space.find_old_starts.Given as goal

abbrev pub decreases-loop-at : goal.decreases-loop-at
decreases-loop-at g l = l.end - l.at

abbrev pub invariant-loop-at : goal.invariant-loop-at
invariant-loop-at g l = record {
  read : IsRead g.W.Words.tells g.W.Words.extent g.W.Words.content g.W.Words.keeps g.W.Words.faults g.W.Words.stops l.initial.words l.words None;
  before : l.at ≤ l.end;
  few : l.from.base + l.copied ≤ l.at;
  objects : IsTrue g.W.Words.tells → AreAscending l.starts → AreOldObjects (g.W.Words.content l.initial.words) l.starts (given l.from) l.olds.items l.at;
  sum : IsTrue g.W.Words.tells → AreAscending l.starts → words_moved (g.W.Words.content l.initial.words) l.starts (given l.from) l.olds.items ≡ l.copied;
}
