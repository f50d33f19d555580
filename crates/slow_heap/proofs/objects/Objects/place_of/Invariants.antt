use Rattle.slow_heap.specs.Objects.{rows_of}
use Rattle.slow_heap.proofs.RowLaws.{HasNoneBefore}
use Rattle.slow_heap.proofs.objects.Objects.place_of.Given as goal

abbrev pub invariant-loop-i : goal.invariant-loop-i
invariant-loop-i l = HasNoneBefore l.id (rows_of l.object-items) l.i
