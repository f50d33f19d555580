use Rattle.std.proofs.Common.{◌≡◌, ◌-◌, ◌++◌, take, drop}
use Rattle.std.specs.Prelude.{IsTrue, None}
use Rattle.object_layout.specs.Read.{HasRunAfter, IsRead}
use Rattle.object_layout.proofs.words.Words.append_to.Given as goal

abbrev pub invariant-loop-at : goal.invariant-loop-at
invariant-loop-at g l = record {
  read : IsRead g.Self.Words.tells g.Self.Words.extent g.Self.Words.content g.Self.Words.keeps g.Self.Words.faults g.Self.Words.stops l.initial.self l.self None;
  run : HasRunAfter l.initial.into.items l.into.items (l.at - l.from);
  these : IsTrue g.Self.Words.tells → l.into.items ≡ l.initial.into.items ++ take (l.at - l.from) (drop l.from (g.Self.Words.content l.initial.self));
}
