-- A translated field is still a field's word, and with it the fields so far are translated.
use Rattle.std.proofs.Common.{◌+◌, ◌<◌, sym, ap, ◌∙◌, subst, arith}
use Rattle.heap_words.specs.Word.{IsFieldWord}
use Rattle.relocation.proofs.RelocationLaws.{translated_word-meant}
use Rattle.volatile_area.specs.Area.{AreaState, length_at, with_field}
use Rattle.volatile_area.proofs.TranslatedLaws.{IsUpto, upto_has, upto_more}
use Rattle.volatile_area.proofs.area.Area.translate_object.Goals as goal

pub set-requires-clause-meant : goal.set-requires-clause-meant
set-requires-clause-meant c =
    subst IsFieldWord (sym c.translated_word.ensures) (translated_word-meant c.args.pairs.now c.get-word.result c.requires.moves c.get-word.ensures.meant)

pub loop-field-preserved : goal.loop-field-preserved
loop-field-preserved c =
    let pairs = c.args.pairs.now in
    let object = c.args.object in
    let now = c.loop-field.self in
    let within : c.loop-field.field < length_at c.args.self.now.words object = omega (arith, c.loop-field-test.true, c.length-field-end.ensures.length) in
    let there = upto_has pairs object c.loop-field.field c.args.self.now now c.loop-field.invariant c.requires.starts within in
    let Upto : AreaState → Type 0 = λ area. IsUpto pairs object (c.loop-field.field + 1) c.args.self.now area in
    subst Upto (sym (c.set.ensures ∙ ap (with_field now object c.loop-field.field) c.translated_word.ensures))
    (upto_more pairs object c.loop-field.field c.args.self.now now c.get-word.result c.loop-field.invariant there c.get-word.ensures.word
    (translated_word-meant pairs c.get-word.result c.requires.moves c.get-word.ensures.meant))
