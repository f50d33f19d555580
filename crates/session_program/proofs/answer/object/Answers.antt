use Rattle.std.proofs.Common.{List, ℕ, ◌++◌, sym, ap, ◌∙◌}
use Rattle.heap_program.proofs.Written.{wrote_front}
use Rattle.session_program.proofs.OneLine.{said_reopen}
use Rattle.session_program.proofs.answer.object.Goals as goal

pub returns-in_err-put_all-clause-wrote : goal.returns-in_err-put_all-clause-wrote
returns-in_err-put_all-clause-wrote g c tells =
    wrote_front _ _ _ _ _ c.from_residual.ensures.0 (sym (said_reopen c.args.number c.args.text.now c.asks_reopen.result c.asks_reopen.ensures c.if-asks_reopen.true)) (c.in_err-put_all.ensures.front tells)

pub returns-then-asks_reopen-clause-wrote : goal.returns-then-asks_reopen-clause-wrote
returns-then-asks_reopen-clause-wrote g c tells =
    c.in_ok-put_all.ensures.all tells ∙ ap (λ (l : List ℕ). g.K.Sink.written c.args.sink.now ++ l) (sym (said_reopen c.args.number c.args.text.now c.asks_reopen.result c.asks_reopen.ensures c.if-asks_reopen.true))
