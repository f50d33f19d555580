use Rattle.std.proofs.Common.{refl, arith}
use Rattle.slow_heap.proofs.RowLaws.{place_within, apart_rewritten, graph_rewritten, apart_pushed, graph_pushed}
use Rattle.slow_heap.proofs.objects.Objects.insert.Goals as goal

pub invariant_of-self : goal.invariant_of-self
invariant_of-self c =
    apart_pushed c.self.inside.objects.items c.push.new.self.items c.args.self.now _ c.self.view_is c.self.invariant c.in-None.ensures.none c.in_ok-push-in-None.ensures.items

pub index_mut-requires : goal.index_mut-requires
index_mut-requires c =
    omega (arith, place_within c.self.inside.objects.items c.args.self.now c.in-Some.i c.args.id c.in-Some.ensures.some.0 c.self.view_is c.in-Some.ensures.some.1, c.self.inside.objects.ok.0)

pub invariant_of-self-in-Some : goal.invariant_of-self-in-Some
invariant_of-self-in-Some c =
    apart_rewritten c.self.inside.objects.items c.args.self.now c.in-Some.i c.index_mut.result.now _ c.args.id c.in-Some.ensures.some.0 c.self.view_is c.self.invariant c.in-Some.ensures.some.1 c.index_mut.ensures.value refl

pub returns-in_ok-push-in-None-clause-ok : goal.returns-in_ok-push-in-None-clause-ok
returns-in_ok-push-in-None-clause-ok c =
    graph_pushed c.self.inside.objects.items c.push.new.self.items c.args.self.now _ _ c.self.view_is c.in-None.ensures.none c.in_ok-push-in-None.ensures.items (c.in_ok-fields.ensures.items_if_clones_equal (λ y h. h))

pub returns-in-Some-clause-ok : goal.returns-in-Some-clause-ok
returns-in-Some-clause-ok c =
    graph_rewritten c.self.inside.objects.items c.args.self.now c.in-Some.i c.index_mut.result.now _ c.args.id c.in-Some.ensures.some.0 _ c.self.view_is c.self.invariant c.in-Some.ensures.some.1 c.index_mut.ensures.value refl (c.in_ok-fields.ensures.items_if_clones_equal (λ y h. h))
