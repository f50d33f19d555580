-- With the root object put first the roots are roots.
use Rattle.std.proofs.Common.{rules, ◌≡◌, List, ℕ, Err, sym, ap, ◌∙◌, subst}
use Rattle.flip_copy.specs.declared.flip_error.FlipError.TheVariants.{NoObject}
use Rattle.flip_copy.specs.Copied.{with_base}
use Rattle.flip_copy.specs.Plan.{AreRootsIn}
use Rattle.flip_copy.proofs.ObjectWordsLaws.{with_base_roots}
use Rattle.flip_copy.proofs.plan.plan_flip.Goals as goal

pub returns-in_err-copies-clause-objects : goal.returns-in_err-copies-clause-objects
returns-in_err-copies-clause-objects g c told are failed =
    let words = g.W.Words.content c.args.words.now in
    let spaces = c.args.spaces.now in
    let all : c.deref.result.now ≡ with_base spaces.base c.args.roots.now =
    c.deref.ensures.value ∙ c.in_ok-all.ensures ∙ ap (λ (b : ℕ). with_base b c.args.roots.now) c.base.ensures.base in
    let roots = subst (λ (xs : List ℕ). AreRootsIn words spaces xs) (sym all) (with_base_roots words spaces c.args.roots.now are) in
    let err : c.from_residual-in_err-copies.result ≡ Err c.in_err-copies.field-0.0 = search rules in
    let same_error : c.in_err-copies.field-0.0 ≡ NoObject = cc (sym err ∙ failed) in
    c.copy_all.ensures.objects told roots (c.in_err-copies.was ∙ ap Err same_error)
