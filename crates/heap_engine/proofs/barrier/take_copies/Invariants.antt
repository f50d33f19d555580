use Rattle.std.proofs.Common.{◌≡◌, take}
use Rattle.heap_spaces.specs.Spaces.{with_copied}
use Rattle.heap_engine.specs.Barrier.{words_of}
use Rattle.heap_engine.proofs.barrier.take_copies.Given as goal

abbrev pub invariant-loop-copy : goal.invariant-loop-copy
invariant-loop-copy l = l.spaces ≡ with_copied l.initial.spaces (words_of (take l.copy-index l.copies))
