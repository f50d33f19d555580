use Rattle.slow_heap.proofs.RowLaws.{one_apart}
use Rattle.slow_heap.proofs.objects.Objects.new.Goals as goal

pub invariant_of-result : goal.invariant_of-result
invariant_of-result c = one_apart _ _ _ c.new-objects.ensures.items c.in_ok-push.ensures.items
