-- One row after another.
use Rattle.std.proofs.Common.{◌≡◌, ℕ, List, [], ◌∷◌, ◌++◌, ◌+◌, Some, None, take, ◌∙◌, ap, sym, subst, append_assoc, Vec, Global}
use Rattle.std.specs.Prelude.{string_bytes, slice_get, codes, IsSome, IsTrue}
use Rattle.std.specs.Fmt.{decimal}
use Rattle.graph_model.specs.Text.{rows_text}
use Rattle.object_layout.specs.Layout.{field_words, object_at, stand}
use Rattle.object_layout.proofs.ReadLaws.{not_read, read_on}
use Rattle.graph_print.specs.Order.{AreWhole, IsOrder, first, IsDamage, no_object}
use Rattle.graph_print.proofs.Rows0.{rows}
use Rattle.graph_print.proofs.DamageLaws.{complete_damage}
use Rattle.graph_print.specs.Printed.{AreFieldsPrinted}
use Rattle.graph_print.proofs.Rows.{order_object, rows_more, rows_all, no_damage}
use Rattle.graph_print.proofs.print.print_from.Goals as goal

pub rows-init : goal.rows-init
rows-init g c = record {
  read = not_read _ _ _ _ _ _ _ g.met.W.Words.keeps_itself;
  order = λ told root is. subst (IsOrder (g.W.Words.content c.args.words.now) root 0) (sym c.in_ok-order.ensures) (first is);
  text = λ told root is. c.new-rows.ensures.bytes;
}

pub returns-in_err-push_object-clause-damage : goal.returns-in_err-push_object-clause-damage
returns-in_err-push_object-clause-damage g c told root is at failed =
    absurd (no_damage c.from_residual-in_err-push_object.result _ at c.from_residual-in_err-push_object.ensures.1 failed)

pub returns-then-not-branch-clause-damage : goal.returns-then-not-branch-clause-damage
returns-then-not-branch-clause-damage g c told root is at failed =
    let words = g.W.Words.content c.args.words.now in
    let here = c.in-Some.at in
    let order = c.rows.invariant.order told root is in
    let place : slice_get c.rows.order c.rows.count ≡ Some here = sym c.in-Some.ensures.place in
    let broken = rw c.if-not-branch.true at (c.in_ok-push_object.ensures.printed told) in
    let Broken : List ℕ → Type 0 = λ ws. IsSome (object_at ws here) → AreWhole ws (field_words ws here) → ⊥ in
    let damage = no_object here order place (subst Broken (c.rows.invariant.read.same_words told) broken (order_object words root c.rows.count c.rows.order c.rows.count here order place)) in
    let named : here ≡ at = cc in
    subst (IsDamage words root) named damage

pub rows-preserved : goal.rows-preserved
rows-preserved g c =
    let more : IsTrue g.W.Words.tells → (root : ℕ) → stand (g.W.Words.content c.args.words.now) root ≡ Some c.args.first
    → IsOrder (g.W.Words.content c.args.words.now) root (c.rows.count + 1) c.push_object.new.order
    × (string_bytes c.push_object.new.text ++ 10 ∷ [] ≡ rows_text 0 (rows (g.W.Words.content c.args.words.now) c.push_object.new.order (take (c.rows.count + 1) c.push_object.new.order))) =
    λ told root is.
    let words = g.W.Words.content c.args.words.now in
    let here = c.in-Some.at in
    let order = c.rows.invariant.order told root is in
    let place : slice_get c.rows.order c.rows.count ≡ Some here = sym c.in-Some.ensures.place in
    let fields = rw c.if-not-branch.false at (c.in_ok-push_object.ensures.printed told) in
    let Words : List ℕ → Type 0 = λ ws. AreFieldsPrinted ws c.rows.order c.push_object.new.order (string_bytes c.write.new.self) (string_bytes c.push_object.new.text) (field_words ws here) in
    let Text : List ℕ → Type 0 = λ t. AreFieldsPrinted words c.rows.order c.push_object.new.order t (string_bytes c.push_object.new.text) (field_words words here) in
    let written : string_bytes c.write.new.self ≡ string_bytes c.rows.rows ++ decimal c.rows.count ++ codes ":" =
    c.in_ok-write.ensures.bytes ∙ sym (append_assoc (string_bytes c.rows.rows) (decimal c.rows.count) (codes ":")) in
    rows_more words root c.rows.count c.rows.order c.push_object.new.order (string_bytes c.rows.rows) (string_bytes c.push_object.new.text) here order place
    (c.rows.invariant.text told root is) (subst Text written (subst Words (c.rows.invariant.read.same_words told) fields)) in
    record {
      read = read_on _ _ _ _ _ _ _ _ _ _ g.met.W.Words.keeps_on c.rows.invariant.read c.in_ok-push_object.ensures.read;
      order = λ told root is. (more told root is).0;
      text = λ told root is. c.in_ok-push_str.ensures.bytes ∙ (more told root is).1;
    }

pub returns-clause-text : goal.returns-clause-text
returns-clause-text g c told root is name graph seen =
    let words = g.W.Words.content c.args.words.now in
    let over : slice_get c.rows.order c.rows.count ≡ None = sym c.in_default.ensures.place in
    let all = rows_all name words root graph c.rows.count c.rows.order (string_bytes c.rows.rows) seen (c.rows.invariant.order told root is) over (c.rows.invariant.text told root is) in
    let printed : string_bytes c.in_ok-text.text ≡ codes "graph " ++ decimal c.rows.count ++ 10 ∷ string_bytes c.rows.rows = c.in_ok-text.ensures.ok in
    ap (λ (v : Vec ℕ Global). v.items) c.into_bytes.ensures.value ∙ printed ∙ all

pub returns-clause-undamaged : goal.returns-clause-undamaged
returns-clause-undamaged g c told root is at damage =
    let over : slice_get c.rows.order c.rows.count ≡ None = sym c.in_default.ensures.place in
    complete_damage (g.W.Words.content c.args.words.now) root c.rows.count c.rows.order at (c.rows.invariant.order told root is) over damage
