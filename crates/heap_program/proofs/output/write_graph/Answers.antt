use Rattle.std.proofs.Common.{ℕ, List, ◌++◌, ◌∙◌, ap}
use Rattle.heap_program.proofs.Written.{wrote_nothing, wrote_front}
use Rattle.heap_program.proofs.output.write_graph.Goals as goal

pub returns-in_err-text-clause-wrote : goal.returns-in_err-text-clause-wrote
returns-in_err-text-clause-wrote g c = λ tells core is reached. wrote_nothing _ _ _ c.from_residual.ensures.0

-- the text is that of the core's graph
pub returns-in_err-put_all-clause-wrote : goal.returns-in_err-put_all-clause-wrote
returns-in_err-put_all-clause-wrote g c = λ tells core is reached.
    wrote_front _ _ c.deref.result.now _ _ c.from_residual-in_err-put_all.ensures.0 (c.deref.ensures.value ∙ c.in_ok-text.ensures.text core is reached) (c.in_err-put_all.ensures.front tells)

-- and all of it was written
pub returns-clause-wrote : goal.returns-clause-wrote
returns-clause-wrote g c = λ tells core is reached.
    c.in_ok-put_all.ensures.all tells ∙ ap (λ (l : List ℕ). g.K.Sink.written c.args.sink.now ++ l) (c.deref.ensures.value ∙ c.in_ok-text.ensures.text core is reached)
