use Rattle.std.proofs.Common.{◌≡◌, ℕ, ◌+◌, min, length, List, ◌++◌, ◌∙◌, ap, subst}
use Rattle.std.specs.Prelude.{string_bytes}
use Rattle.graph_model.specs.History.{sealed}
use Rattle.graph_model.specs.Transaction.{serial}
use Rattle.heap_program.specs.Headline.{recovered_line, graph_text}
use Rattle.counts.specs.Count.{greatest}
use Rattle.heap_program.proofs.Written.{wrote_nothing, wrote_front, wrote_less, wrote_then}
use Rattle.heap_program.specs.Output.{commits_since}
use Rattle.heap_program.proofs.output.write_recovered.Goals as goal

pub returns-in_err-line-clause-wrote : goal.returns-in_err-line-clause-wrote
returns-in_err-line-clause-wrote g c = λ tells core is reached. wrote_nothing _ _ _ c.from_residual.ensures.0

-- the line has the commits since then
pub returns-in_err-put_all-clause-wrote : goal.returns-in_err-put_all-clause-wrote
returns-in_err-put_all-clause-wrote g c = λ tells core is reached.
    let count : c.count_since-commits.result ≡ commits_since c.args.before (min (core.before + length (sealed core.history)) greatest) = c.count_since-commits.ensures ∙ ap (commits_since c.args.before) (c.commits.ensures core is) in
    let text = subst (λ (n : ℕ). string_bytes c.in_ok-line.line ≡ recovered_line n) count c.in_ok-line.ensures.ok in
    let failed = c.from_residual-in_err-put_all.ensures.0 in
    wrote_less _ _ (recovered_line (commits_since c.args.before (min (core.before + length (sealed core.history)) greatest))) (graph_text (serial core.g0 (sealed core.history))) _ failed
    (wrote_front _ _ c.as_bytes.result.now _ _ failed (c.as_bytes.ensures.value ∙ text) (c.in_err-put_all.ensures.front tells))

-- and the graph is written after it
pub returns-clause-wrote : goal.returns-clause-wrote
returns-clause-wrote g c = λ tells core is reached.
    let count : c.count_since-commits.result ≡ commits_since c.args.before (min (core.before + length (sealed core.history)) greatest) = c.count_since-commits.ensures ∙ ap (commits_since c.args.before) (c.commits.ensures core is) in
    let text = subst (λ (n : ℕ). string_bytes c.in_ok-line.line ≡ recovered_line n) count c.in_ok-line.ensures.ok in
    let first = c.in_ok-put_all.ensures.all tells ∙ ap (λ (l : List ℕ). g.K.Sink.written c.args.sink.now ++ l) (c.as_bytes.ensures.value ∙ text) in
    wrote_then _ _ (recovered_line (commits_since c.args.before (min (core.before + length (sealed core.history)) greatest))) _ (graph_text (serial core.g0 (sealed core.history))) _ first (c.write_graph.ensures.wrote tells core is reached)
