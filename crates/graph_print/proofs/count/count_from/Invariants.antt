use Rattle.std.proofs.Common.{◌≡◌, ℕ, ◌-◌, Some}
use Rattle.std.specs.Prelude.{IsTrue, None}
use Rattle.object_layout.specs.Layout.{stand}
use Rattle.object_layout.specs.Read.{IsRead}
use Rattle.graph_print.specs.Order.{IsOrder}
use Rattle.graph_print.proofs.count.count_from.Given as goal

abbrev pub decreases-objects : goal.decreases-objects
decreases-objects g l = 4294967296 - l.count

abbrev pub invariant-objects : goal.invariant-objects
invariant-objects g l = record {
  read : IsRead g.W.Words.tells g.W.Words.extent g.W.Words.content g.W.Words.keeps g.W.Words.faults g.W.Words.stops l.initial.words l.words None;
  order : IsTrue g.W.Words.tells → (root : ℕ) → stand (g.W.Words.content l.initial.words) root ≡ Some l.fn.first → IsOrder (g.W.Words.content l.initial.words) root l.count l.order;
}
