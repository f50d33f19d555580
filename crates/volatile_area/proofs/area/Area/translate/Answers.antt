-- The starts that are kept are those of the area, before and after.
use Rattle.std.proofs.Common.{ℕ, ◌≡◌, ◌<◌, length, get_or, ap, ◌∙◌, subst, arith}
use Rattle.std.proofs.lemmas.List.{get_or_read}
use Rattle.volatile_area.specs.Area.{starts_of, IsTranslatedIn}
use Rattle.volatile_area.proofs.TranslatedLaws.{are_more, are_all}
use Rattle.volatile_area.proofs.area.Area.translate.Goals as goal

pub loop-place-preserved : goal.loop-place-preserved
loop-place-preserved c =
    let pairs = c.args.pairs.now in
    let old = c.args.self.now in
    let kept = c.self.inside in
    let now = c.self-in-loop-place.inside in
    let place = c.loop-place.place in
    let first = ap length (c.self.invariant.own ∙ ap starts_of c.self.view_is) in
    let same = c.self-in-loop-place.invariant.own ∙ ap starts_of c.self-in-loop-place.view_is ∙ c.loop-place.invariant.objects.starts in
    let within : place < length (starts_of old) = omega (arith, first, kept.starts.ok.0, c.len-place-end.ensures, c.loop-place-test.true) in
    let here : c.index-object.result.now ≡ get_or (starts_of old) place 0 =
    get_or_read now.starts.items place c.index-object.result.now (omega (arith, ap length same)) c.index-object.ensures 0 ∙ ap (λ xs. get_or xs place 0) same in
    let In : ℕ → Type 0 = λ object. IsTranslatedIn pairs object c.loop-place.self c.translate_object.new.self in
    are_more pairs place old c.loop-place.self c.translate_object.new.self c.loop-place.invariant within c.translate_object.ensures.sound (subst In here c.translate_object.ensures.translated)

pub returns : goal.returns
returns c =
    let first = ap length (c.self.invariant.own ∙ ap starts_of c.self.view_is) in
    are_all c.args.pairs.now c.loop-place.place c.args.self.now c.loop-place.self c.loop-place.invariant
    (omega (arith, first, c.self.inside.starts.ok.0, c.len-place-end.ensures, c.loop-place-test.false))
