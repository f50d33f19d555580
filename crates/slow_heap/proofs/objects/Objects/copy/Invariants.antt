use Rattle.std.proofs.Common.{◌≡◌, take}
use Rattle.slow_heap.specs.Objects.{rows_of}
use Rattle.slow_heap.proofs.objects.Objects.copy.Given as goal

-- what was copied so far
abbrev pub invariant-loop-object : goal.invariant-loop-object
invariant-loop-object l = rows_of l.objects.items ≡ rows_of (take l.object-index l.object-items)
