use Rattle.std.proofs.Common.{refl, sym, ap, ◌∙◌, arith}
use Rattle.std.specs.Prelude.{slice_set}
use Rattle.std.proofs.lemmas.List.{set_past}
use Rattle.slow_heap.proofs.RowLaws.{fields_read, apart_rewritten, graph_rewritten}
use Rattle.slow_heap.proofs.objects.Objects.set.Goals as goal

pub returns-then-i-len : goal.returns-then-i-len
returns-then-i-len c =
    let object = c.index_mut-object.result.now in
    let read = fields_read c.self.inside.objects.items c.args.self.now c.in-Some.place object c.args.id c.in-Some.ensures.some.0 c.self.view_is c.self.invariant c.in-Some.ensures.some.1 c.index_mut-object.ensures.value in
    graph_rewritten c.self.inside.objects.items c.args.self.now c.in-Some.place object _ c.args.id c.in-Some.ensures.some.0 _ c.self.view_is c.self.invariant c.in-Some.ensures.some.1 c.index_mut-object.ensures.value refl
    (sym (set_past object.fields.items c.args.i c.args.value (omega arith)) ∙ ap (λ vs. slice_set vs c.args.i c.args.value) read)

pub invariant_of-self-2 : goal.invariant_of-self-2
invariant_of-self-2 c =
    apart_rewritten c.self.inside.objects.items c.args.self.now c.in-Some.place c.index_mut-object.result.now _ c.args.id c.in-Some.ensures.some.0 c.self.view_is c.self.invariant c.in-Some.ensures.some.1 c.index_mut-object.ensures.value refl

pub returns : goal.returns
returns c =
    let read = fields_read c.self.inside.objects.items c.args.self.now c.in-Some.place c.index_mut-object.result.now c.args.id c.in-Some.ensures.some.0 c.self.view_is c.self.invariant c.in-Some.ensures.some.1 c.index_mut-object.ensures.value in
    graph_rewritten c.self.inside.objects.items c.args.self.now c.in-Some.place c.index_mut-object.result.now _ c.args.id c.in-Some.ensures.some.0 _ c.self.view_is c.self.invariant c.in-Some.ensures.some.1 c.index_mut-object.ensures.value refl
    (ap (λ vs. slice_set vs c.args.i c.args.value) read)
