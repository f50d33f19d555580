use Rattle.std.proofs.lemmas.Result.{err_from_is_err_and}
use Rattle.heap_io.proofs.Streams.{left_is_drop_further}
use Rattle.heap_io.proofs.reading.take_all.Goals as goal

pub returns-in_err-take_piece-clause-rest : goal.returns-in_err-take_piece-clause-rest
returns-in_err-take_piece-clause-rest g c = λ tells.
    let p = err_from_is_err_and c.from_residual-in_err-take_piece.result c.from_residual-in_err-take_piece.ensures.1 in
    let left = c.in_err-take_piece.ensures.rest tells in
    rw p.1 (left_is_drop_further left.0 _ _ _ _ (c.loop-bytes.invariant.front tells) left.1)
