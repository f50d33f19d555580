use Rattle.std.proofs.Common.{◌≡◌, ◌+◌, ◌-◌, ◌*◌, ◌≤◌, ◌<◌, true}
use Rattle.std.specs.Prelude.{IsTrue, None, vec_len}
use Rattle.object_layout.specs.Read.{IsRead}
use Rattle.page_scanner.specs.Plan.{planned, IsPlan}
use Rattle.page_scanner.specs.Scan.{is_gray, visit_all}
use Rattle.page_scanner.proofs.scan.visit_page.Given as goal

abbrev pub invariant-loop-place : goal.invariant-loop-place
invariant-loop-place g l = record {
  read : IsRead g.W.Words.tells g.W.Words.extent g.W.Words.content g.W.Words.keeps g.W.Words.faults g.W.Words.stops l.initial.words l.words None;
  plan : IsPlan l.plan;
  first : l.plan.first ≡ l.initial.plan.first;
  low : l.place ≤ 64;
  few : vec_len l.plan.writes ≤ vec_len l.initial.plan.writes + l.place * 510;
  gray : l.place < 64 → is_gray l.collection (planned l.plan) (l.initial.plan.first + l.place) ≡ true;
  visited : IsTrue g.W.Words.tells
      → visit_all l.spaces l.collection (g.W.Words.content l.initial.words) (planned l.initial.plan) l.initial.plan.first 64
      ≡ visit_all l.spaces l.collection (g.W.Words.content l.initial.words) (planned l.plan) (l.initial.plan.first + l.place) (64 - l.place);
}

abbrev pub decreases-loop-place : goal.decreases-loop-place
decreases-loop-place g l = 64 - l.place
