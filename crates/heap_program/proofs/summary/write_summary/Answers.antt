use Rattle.std.proofs.Common.{ℕ, List, ◌∙◌, ap}
use Rattle.graph_model.specs.declared.reply.Entry.{Entry}
use Rattle.heap_program.specs.Load.{summary_of, summary_text}
use Rattle.heap_program.proofs.Written.{wrote_nothing, wrote_front}
use Rattle.heap_program.proofs.summary.write_summary.Goals as goal

pub returns-in_err-objects-clause-wrote : goal.returns-in_err-objects-clause-wrote
returns-in_err-objects-clause-wrote g c = λ tells core is reached. wrote_nothing _ _ _ c.from_residual.ensures.0

pub returns-in_err-text-clause-wrote : goal.returns-in_err-text-clause-wrote
returns-in_err-text-clause-wrote g c = λ tells core is reached. wrote_nothing _ _ _ c.from_residual-in_err-text.ensures.0

pub returns-in_err-put_all-clause-wrote : goal.returns-in_err-put_all-clause-wrote
returns-in_err-put_all-clause-wrote g c = λ tells core is reached.
    let entries = c.history.ensures.entries core is in
    let summary = c.of-summary.ensures ∙ ap (λ (h : List Entry). summary_of c.args.seed c.args.count h c.in_ok-objects.objects) entries ∙ ap (λ (n : ℕ). summary_of c.args.seed c.args.count core.history n) (c.in_ok-objects.ensures.count core is reached) in
    wrote_front _ _ c.as_bytes.result.now _ _ c.from_residual-in_err-put_all.ensures.0 (c.as_bytes.ensures.value ∙ c.in_ok-text.ensures.ok ∙ ap summary_text summary) (c.in_err-put_all.ensures.front tells)
