use Rattle.std.proofs.Common.{ap, sym, ◌∙◌}
use Rattle.std.specs.Prelude.{is_some}
use Rattle.sealed_graph.proofs.GraphLaws.{with_field-none, with_field-some, on_ok}
use Rattle.sealed_graph.proofs.plain_graph.PlainGraph.set.Goals as goal

pub returns-in-None-clause-ok : goal.returns-in-None-clause-ok
returns-in-None-clause-ok c =
    on_ok c.insert_null.result _ _ (λ is. is ∙ with_field-none c.self.inside.objects.entries _ c.args.self.now c.args.id c.args.i c.args.value c.self.view_is (ap (λ m. m.entries) c.get_mut.follows.holds-at-none) c.in-None.ensures.value) c.insert_null.ensures.ok

pub returns-in-Some-clause-ok : goal.returns-in-Some-clause-ok
returns-in-Some-clause-ok c =
    let changes = (c.get_mut.follows.holds c.set_value.new.values).3 (ap is_some (sym c.in-Some.ensures.value)) in
    with_field-some c.self.inside.objects.entries _ c.args.self.now c.args.id c.args.i c.args.value c.in-Some.values.now c.set_value.new.values c.self.view_is c.in-Some.ensures.value changes.0 c.set_value.ensures
