use Rattle.std.proofs.Common.{◌∙◌}
use Rattle.slow_heap.proofs.RowLaws.{fields_read}
use Rattle.slow_heap.proofs.objects.Objects.fields.Goals as goal

pub returns-in-Some : goal.returns-in-Some
returns-in-Some c =
    c.deref.ensures.value
    ∙ fields_read c.self.inside.objects.items c.args.self.now c.in-Some.i c.index.result.now c.args.id c.in-Some.ensures.some.0 c.self.view_is c.self.invariant c.in-Some.ensures.some.1 c.index.ensures
