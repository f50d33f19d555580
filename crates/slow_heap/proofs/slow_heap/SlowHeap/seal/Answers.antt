use Rattle.slow_heap.proofs.Kept.{kept_sealed_by}
use Rattle.slow_heap.proofs.slow_heap.SlowHeap.seal.Goals as goal

pub invariant_of-self-2 : goal.invariant_of-self-2
invariant_of-self-2 c =
    kept_sealed_by c.self.inside.history.items c.args.self.now _ _ c.self.inside.next c.len.result c.args.s c.self.inside.active c.remove.new.self c.self.inside.states.items _ _ c.in-Some.transaction.now c.in_ok-view.view c.into_objects.result c.objects.result.now
    c.self.invariant c.in-Some.ensures.value c.self.view_is c.objects.ensures c.in_ok-view.ensures.view c.into_objects.ensures c.remove.ensures.updates
    c.in_ok-reserve.ensures.items c.push_reserved.ensures.items c.in_ok-reserve-2.ensures.items c.push_reserved-2.ensures.items
