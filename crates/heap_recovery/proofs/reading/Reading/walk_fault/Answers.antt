use Rattle.std.proofs.Common.{length, ap, arith}
use Rattle.heap_recovery.proofs.reading.Reading.walk_fault.Goals as goal

pub walk_beside-requires-clause-space : goal.walk_beside-requires-clause-space
walk_beside-requires-clause-space c =
    let read = c.args.self.now in
    omega (arith, c.base-base.ensures, c.used-used.ensures.used, c.used-used.ensures.fits, read.same_pages, read.sized, ap length c.of-words.ensures, ap length c.as_slice.ensures.words)
