use Rattle.std.proofs.Common.{◌≡◌, ◌+◌, ◌-◌, ◌≤◌, take, drop}
use Rattle.std.specs.Prelude.{IsTrue, None, vec_len}
use Rattle.object_layout.specs.Read.{IsRead}
use Rattle.page_scanner.specs.Plan.{planned, IsPlan}
use Rattle.page_scanner.specs.Scan.{follow_all}
use Rattle.page_scanner.proofs.plan.Plan.follow_all.Given as goal

abbrev pub invariant-loop-field : goal.invariant-loop-field
invariant-loop-field g l = record {
  read : IsRead g.W.Words.tells g.W.Words.extent g.W.Words.content g.W.Words.keeps g.W.Words.faults g.W.Words.stops l.initial.words l.words None;
  plan : IsPlan l.self;
  first : l.self.first ≡ l.initial.self.first;
  few : vec_len l.self.writes + 2 ≤ vec_len l.initial.self.writes + l.field;
  followed : IsTrue g.W.Words.tells
      → follow_all l.spaces l.collection (g.W.Words.content l.initial.words) (planned l.initial.self) (l.at + 2) (take l.n (drop (l.source + 2) (g.W.Words.content l.initial.words)))
      ≡ follow_all l.spaces l.collection (g.W.Words.content l.initial.words) (planned l.self) (l.at + l.field) (take (l.n + 2 - l.field) (drop (l.source + l.field) (g.W.Words.content l.initial.words)));
}
