use Rattle.std.proofs.Common.{rules}
use Rattle.heap_program.proofs.Written.{wrote_front}
use Rattle.heap_program.proofs.printing.write_size.Goals as goal

pub returns-in_err-put_all-clause-wrote : goal.returns-in_err-put_all-clause-wrote
returns-in_err-put_all-clause-wrote g c tells =
    wrote_front _ _ c.as_bytes.result.now _ _ c.from_residual-in_err-put_all.ensures.0 (search rules) (c.in_err-put_all.ensures.front tells)
