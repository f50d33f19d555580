use Rattle.std.proofs.Common.{◌+◌, ◌-◌, ◌*◌, ◌<◌, length, length-take, length-drop, take, drop, sym, ap, ◌∙◌, arith, inl, inr}
use Rattle.std.proofs.lemmas.Bool.{cases_lt}
use Rattle.log_machine.specs.Machine.{put_all}
use Rattle.log_machine.proofs.WordsFrom.{from_below}
use Rattle.page_cache.proofs.ByPageLaws.{end_below, on_page_words, on_page_none}
use Rattle.page_cache.proofs.effect.put_words_on.Goals as goal

pub overflow_add-address : goal.overflow_add-address
overflow_add-address c = elim (cases_lt 0 (length c.args.new.now)) [
  | inl some ↦ omega (arith, end_below _ c.args.address c.args.new.now c.requires some)
  | inr none ↦ omega arith
]

pub put_words-requires : goal.put_words-requires
put_words-requires c =
    let new = c.args.new.now in
    let before = c.max-begin.result - c.args.address in
    let some : 0 < length new = omega (arith, c.max-begin.ensures, c.min-end.ensures, c.if-begin-end.true) in
    let ends = end_below _ c.args.address new c.requires some in
    let part = take (c.min-end.result - c.args.address - before) (drop before new) in
    from_below c.max-begin.result _ part (omega (arith, ends, length-take (c.min-end.result - c.args.address - before) (drop before new), length-drop before new, c.max-begin.ensures, c.min-end.ensures, c.if-begin-end.true))

pub returns-then-begin-end : goal.returns-then-begin-end
returns-then-begin-end c =
    let there : c.args.address < 64 * c.args.p + 64 = omega (arith, c.max-begin.ensures, c.min-end.ensures, c.if-begin-end.true) in
    c.put_words.ensures ∙ ap (put_all c.args.words.now) (sym (on_page_words c.args.p c.args.address c.max-begin.result c.min-end.result c.args.new.now c.max-begin.ensures c.min-end.ensures there))

pub returns-else-begin-end : goal.returns-else-begin-end
returns-else-begin-end c = ap (put_all c.args.words.now) (sym (on_page_none c.args.p c.args.address c.max-begin.result c.min-end.result c.args.new.now c.max-begin.ensures c.min-end.ensures c.if-begin-end.false))
