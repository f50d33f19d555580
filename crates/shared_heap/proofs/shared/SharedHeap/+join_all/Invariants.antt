use Rattle.std.specs.Prelude.{vec_len}
use Rattle.shared_heap.proofs.shared.SharedHeap.+join_all.Given as goal

abbrev pub decreases-join_all : goal.decreases-join_all
decreases-join_all g l = vec_len l.passes
