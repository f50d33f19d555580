-- An object of a prefix of the words is one of them, and has no more fields than an object may have.
use Rattle.std.proofs.Common.{◌≡◌, sym, ◌∙◌, arith}
use Rattle.std.proofs.lemmas.Option.{same_Some}
use Rattle.object_layout.proofs.LayoutLaws.{object_small}
use Rattle.object_layout.proofs.WalkLaws.{object_take}
use Rattle.flip_copy.proofs.plan.object_before.Goals as goal

pub returns-in_default-3-clause-stands : goal.returns-in_default-3-clause-stands
returns-in_default-3-clause-stands g c told n stands =
    let words = g.W.Words.content c.args.words.now in
    let object = object_take words c.args.end c.args.at n stands in
    let small = object_small words c.args.at n object in
    let same : c.in-Some.n ≡ n = same_Some c.in-Some.n n (sym c.in-Some.is ∙ c.in_ok-n.ensures.object told ∙ object) in
    absurd (omega (arith, c.if-n-le-MOST_FIELDS.false))
