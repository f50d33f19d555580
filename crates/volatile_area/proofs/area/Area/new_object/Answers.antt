-- The transaction makes few objects, and the fields grow by the start and the words of one.
use Rattle.std.proofs.Common.{◌≡◌, ◌+◌, ◌*◌, ◌++◌, ◌∷◌, [], length, subst, sym, ap, ◌∙◌, arith}
use Rattle.std.specs.Prelude.{replicate}
use Rattle.std.proofs.lemmas.List.{length_push}
use Rattle.heap_words.specs.Header.{birth_bits}
use Rattle.volatile_area.specs.Area.{AreaState, area_of, new_words, with_object, AreItsStarts}
use Rattle.volatile_area.proofs.AreaLaws.{made_few}
use Rattle.volatile_area.proofs.Kept.{kept_with_object}
use Rattle.volatile_area.proofs.area.Area.new_object.Goals as goal

pub overflow_add-made : goal.overflow_add-made
overflow_add-made c =
    let few = made_few _ c.self.invariant.sound in
    let words = c.self.invariant.sound.few in
    let same = ap (λ (area : AreaState). area.made) c.self.view_is in
    omega (arith, c.made.ensures)

pub invariant_of-self-2 : goal.invariant_of-self-2
invariant_of-self-2 c =
    let kept = c.self.inside in
    let area = area_of kept.transaction kept.starts.items kept.words.items in
    let long : length c.args.self.now.words ≡ length kept.words.items = sym (ap (λ (a : AreaState). length a.words) c.self.view_is) in
    let made : c.made.result ≡ length kept.starts.items = c.made.ensures ∙ sym (ap (λ (a : AreaState). a.made) c.self.view_is) in
    let starts : c.push_reserved.new.self.items ≡ kept.starts.items ++ length kept.words.items ∷ [] =
    c.push_reserved.ensures.items ∙ ap (λ xs. xs ++ c.used-used.result ∷ []) c.in_ok-reserve.ensures.items ∙ ap (λ x. kept.starts.items ++ x ∷ []) (c.used-used.ensures ∙ long) in
    let birth : c.birth-birth.result ≡ birth_bits kept.transaction (length kept.starts.items + 1) = c.birth-birth.ensures ∙ ap (λ k. birth_bits kept.transaction (k + 1)) made in
    let words : c.add_object.new.words.items ≡ kept.words.items ++ new_words kept.transaction (length kept.starts.items + 1) c.args.fields =
    c.in_ok-add_object.ensures.ok ∙ ap (λ b. kept.words.items ++ (4 * c.args.fields + 1) ∷ b ∷ replicate c.args.fields 0) birth in
    let more : length c.push_reserved.new.self.items ≡ length kept.starts.items + 1 = ap length starts ∙ length_push kept.starts.items (length kept.words.items) in
    let same : with_object area c.args.fields ≡ area_of kept.transaction c.push_reserved.new.self.items c.add_object.new.words.items = cc in
    let Area : AreaState → Type 0 = λ a. AreItsStarts c.push_reserved.new.self.items a in
    subst Area same (subst (λ xs. AreItsStarts xs (with_object area c.args.fields)) (sym starts) (kept_with_object kept.starts.items area c.args.fields c.self.invariant c.requires (omega (arith, c.used-used.ensures))))
