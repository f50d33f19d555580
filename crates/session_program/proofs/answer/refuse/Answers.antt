use Rattle.std.proofs.Common.{rules, ap, ◌∙◌, List, ℕ, ◌++◌}
use Rattle.heap_program.proofs.Written.{wrote_front, wrote_nothing}
use Rattle.session_program.proofs.answer.refuse.Goals as goal

pub returns-in_err-line-clause-wrote : goal.returns-in_err-line-clause-wrote
returns-in_err-line-clause-wrote g c tells = wrote_nothing _ _ _ c.from_residual.ensures.0

pub returns-in_err-put_all-clause-wrote : goal.returns-in_err-put_all-clause-wrote
returns-in_err-put_all-clause-wrote g c tells =
    wrote_front _ _ c.as_bytes.result.now _ _ c.from_residual-in_err-put_all.ensures.0 (search rules) (c.in_err-put_all.ensures.front tells)

pub returns-clause-wrote : goal.returns-clause-wrote
returns-clause-wrote g c tells =
    c.in_ok-put_all.ensures.all tells ∙ ap (λ (l : List ℕ). g.K.Sink.written c.args.sink.now ++ l) (c.as_bytes.ensures.value ∙ c.in_ok-line.ensures.ok)
