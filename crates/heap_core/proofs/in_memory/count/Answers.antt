use Rattle.std.proofs.Common.{◌≡◌, Err, refl, ap, ◌∙◌, rules}
use Rattle.heap_core.specs.Causes.{graph_error}
use Rattle.graph_print.specs.PrintFailure.{print_failure}
use Rattle.heap_core.proofs.PrintErrors.{only_memory}
use Rattle.heap_core.proofs.Undamaged.{undamaged, no_failure}
use Rattle.heap_core.proofs.in_memory.count.Goals as goal

pub returns-clause-count : goal.returns-clause-count
returns-clause-count c name gr seen =
    c.in_ok-canon_count.ensures.count refl name gr seen

pub returns-in_err-canon_count-clause-error : goal.returns-in_err-canon_count-clause-error
returns-in_err-canon_count-clause-error c name gr seen =
    let e = c.in_err-canon_count.field-0.0 in
    let err : c.from_residual.result ≡ Err (graph_error e) = search rules in
    rw err (only_memory e (λ at bad. undamaged name _ c.args.root gr at seen (c.canon_count.ensures.damage refl at (c.in_err-canon_count.was ∙ ap (λ x. Err x) bad)))
    (λ d bad. no_failure (print_failure c.canon_count.result) c.canon_count.ensures.read.failed c.canon_count.ensures.read.stopped d (ap print_failure (c.in_err-canon_count.was ∙ ap (λ x. Err x) bad))))
