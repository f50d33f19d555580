use Rattle.std.proofs.Common.{◌≡◌, ℕ, ◌-◌, take, Some}
use Rattle.std.specs.Prelude.{IsTrue, None, string_bytes}
use Rattle.graph_model.specs.Text.{rows_text}
use Rattle.object_layout.specs.Layout.{stand}
use Rattle.object_layout.specs.Read.{IsRead}
use Rattle.graph_print.specs.Order.{IsOrder}
use Rattle.graph_print.proofs.Rows0.{rows}
use Rattle.graph_print.proofs.print.print_from.Given as goal

abbrev pub decreases-rows : goal.decreases-rows
decreases-rows g l = 4294967296 - l.count

abbrev pub invariant-rows : goal.invariant-rows
invariant-rows g l = record {
  read : IsRead g.W.Words.tells g.W.Words.extent g.W.Words.content g.W.Words.keeps g.W.Words.faults g.W.Words.stops l.initial.words l.words None;
  order : IsTrue g.W.Words.tells → (root : ℕ) → stand (g.W.Words.content l.initial.words) root ≡ Some l.fn.first → IsOrder (g.W.Words.content l.initial.words) root l.count l.order;
  text : IsTrue g.W.Words.tells → (root : ℕ) → stand (g.W.Words.content l.initial.words) root ≡ Some l.fn.first
      → string_bytes l.rows ≡ rows_text 0 (rows (g.W.Words.content l.initial.words) l.order (take l.count l.order));
}
