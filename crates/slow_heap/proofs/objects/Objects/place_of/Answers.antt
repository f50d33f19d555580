use Rattle.std.proofs.Common.{◌≤◌, length, sym, ap, ◌∙◌, arith}
use Rattle.std.specs.FinMap.{get}
use Rattle.slow_heap.specs.Objects.{rows_of, graph_of}
use Rattle.slow_heap.proofs.RowLaws.{none_more, none_there}
use Rattle.slow_heap.proofs.objects.Objects.place_of.Goals as goal

pub loop-i-preserved : goal.loop-i-preserved
loop-i-preserved c =
    none_more c.deref-object-items.result.now c.loop-i.i c.object-item.result c.args.id c.loop-i-test.true c.object-item.is (sym c.eq.ensures ∙ c.if-eq.false) c.loop-i.invariant

pub returns-clause-none : goal.returns-clause-none
returns-clause-none c =
    let past : length c.deref-object-items.result.now ≤ c.loop-i.i = omega arith in
    sym (ap (λ rows. get (graph_of rows) c.args.id) (ap rows_of c.deref-object-items.ensures.value ∙ c.self.view_is))
    ∙ none_there c.deref-object-items.result.now c.loop-i.i c.args.id past c.loop-i.invariant
