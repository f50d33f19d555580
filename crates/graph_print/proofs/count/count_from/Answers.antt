-- One object after another.
use Rattle.std.proofs.Common.{◌≡◌, ℕ, ◌+◌, List, Some, None, sym, subst}
use Rattle.std.specs.Prelude.{slice_get, IsSome, IsTrue}
use Rattle.object_layout.specs.Layout.{field_words, object_at}
use Rattle.object_layout.proofs.ReadLaws.{not_read, read_on}
use Rattle.graph_print.specs.Order.{AreWhole, IsOrder, first, next, IsDamage, no_object}
use Rattle.graph_print.specs.Numbered.{AreFieldsNumbered}
use Rattle.graph_print.proofs.DamageLaws.{complete_damage}
use Rattle.graph_print.proofs.Rows.{order_object, order_count, no_damage}
use Rattle.graph_print.proofs.count.count_from.Goals as goal

pub objects-init : goal.objects-init
objects-init g c = record {
  read = not_read _ _ _ _ _ _ _ g.met.W.Words.keeps_itself;
  order = λ told root is. subst (IsOrder (g.W.Words.content c.args.words.now) root 0) (sym c.in_ok-order.ensures) (first is);
}

pub returns-in_err-number_object-clause-damage : goal.returns-in_err-number_object-clause-damage
returns-in_err-number_object-clause-damage g c told root is at failed =
    absurd (no_damage c.from_residual-in_err-number_object.result _ at c.from_residual-in_err-number_object.ensures.1 failed)

pub returns-then-not-branch-clause-damage : goal.returns-then-not-branch-clause-damage
returns-then-not-branch-clause-damage g c told root is at failed =
    let words = g.W.Words.content c.args.words.now in
    let here = c.in-Some.at in
    let order = c.objects.invariant.order told root is in
    let place : slice_get c.objects.order c.objects.count ≡ Some here = sym c.in-Some.ensures.place in
    let broken = rw c.if-not-branch.true at (c.in_ok-number_object.ensures.numbered told) in
    let Broken : List ℕ → Type 0 = λ ws. IsSome (object_at ws here) → AreWhole ws (field_words ws here) → ⊥ in
    let damage = no_object here order place (subst Broken (c.objects.invariant.read.same_words told) broken (order_object words root c.objects.count c.objects.order c.objects.count here order place)) in
    let named : here ≡ at = cc in
    subst (IsDamage words root) named damage

pub objects-preserved : goal.objects-preserved
objects-preserved g c = record {
  read = read_on _ _ _ _ _ _ _ _ _ _ g.met.W.Words.keeps_on c.objects.invariant.read c.in_ok-number_object.ensures.read;
  order = λ told root is.
      let words = g.W.Words.content c.args.words.now in
      let here = c.in-Some.at in
      let order = c.objects.invariant.order told root is in
      let place : slice_get c.objects.order c.objects.count ≡ Some here = sym c.in-Some.ensures.place in
      let fields = rw c.if-not-branch.false at (c.in_ok-number_object.ensures.numbered told) in
      let Words : List ℕ → Type 0 = λ ws. AreFieldsNumbered ws c.objects.order c.number_object.new.order (field_words ws here) in
      let numbered = subst Words (c.objects.invariant.read.same_words told) fields in
      subst (IsOrder words root (c.objects.count + 1)) (sym numbered.order) (next here order place numbered.whole);
}

pub returns-clause-count : goal.returns-clause-count
returns-clause-count g c told root is name graph seen =
    let over : slice_get c.objects.order c.objects.count ≡ None = sym c.in_default.ensures.place in
    order_count name (g.W.Words.content c.args.words.now) root graph c.objects.count c.objects.order seen (c.objects.invariant.order told root is) over

pub returns-clause-undamaged : goal.returns-clause-undamaged
returns-clause-undamaged g c told root is at damage =
    let over : slice_get c.objects.order c.objects.count ≡ None = sym c.in_default.ensures.place in
    complete_damage (g.W.Words.content c.args.words.now) root c.objects.count c.objects.order at (c.objects.invariant.order told root is) over damage
