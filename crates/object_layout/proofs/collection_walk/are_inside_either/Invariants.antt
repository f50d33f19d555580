use Rattle.std.proofs.Common.{◌-◌, ◌++◌, take, drop}
use Rattle.std.specs.Prelude.{IsTrue, None}
use Rattle.object_layout.specs.Read.{IsRead}
use Rattle.object_layout.specs.Walk.{AreInside, AreAscending}
use Rattle.object_layout.proofs.collection_walk.are_inside_either.Given as goal

abbrev pub invariant-loop-at : goal.invariant-loop-at
invariant-loop-at g l = record {
  read : IsRead g.W.Words.tells g.W.Words.extent g.W.Words.content g.W.Words.keeps g.W.Words.faults g.W.Words.stops l.initial.words l.words None;
  inside : IsTrue g.W.Words.tells → AreAscending l.starts → AreAscending l.more → AreInside (l.starts ++ l.more) (take (l.at - l.from) (drop l.from (g.W.Words.content l.initial.words)));
}
