use Rattle.std.proofs.Common.{◌≡◌, fold, take}
use Rattle.heap_engine.specs.Barrier.{write_at}
use Rattle.heap_engine.proofs.barrier.written_word.Given as goal

abbrev pub invariant-loop-write : goal.invariant-loop-write
invariant-loop-write l = l.now ≡ fold (write_at l.at) l.word (take l.write-index l.writes)
