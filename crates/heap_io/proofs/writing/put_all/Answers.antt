use Rattle.std.proofs.Common.{arith}
use Rattle.std.proofs.lemmas.Slice.{between_to_end}
use Rattle.heap_io.proofs.Streams.{put_further}
use Rattle.heap_io.proofs.writing.put_all.Goals as goal

pub loop-done-preserved : goal.loop-done-preserved
loop-done-preserved g c =
    let bytes = c.args.bytes.now in
    let at = c.loop-done.done in
    record {
      within = omega (arith, c.in_ok-done.ensures.within);
      kept = omega (arith, c.put.ensures.cause.kept);
      front = λ tells. put_further at c.in_ok-done.field-0 bytes _ _ _ _ (between_to_end bytes at _ (omega arith)) (c.loop-done.invariant.front tells) (c.in_ok-done.ensures.put tells);
    }
