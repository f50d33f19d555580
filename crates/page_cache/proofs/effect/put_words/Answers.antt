use Rattle.std.proofs.Common.{◌+◌, ◌∙◌, List, ℕ, get_or, set, ap, sym, arith}
use Rattle.log_machine.proofs.WordsFrom.{below_at}
use Rattle.page_cache.proofs.PutLaws.{put_next}
use Rattle.page_cache.proofs.effect.put_words.Goals as goal

pub bounds-words-address : goal.bounds-words-address
bounds-words-address c = omega (arith, below_at c.args.address _ c.loop-i.i c.args.new.now c.requires c.loop-i-test.true, c.loop-i.auto.words)

pub loop-i-preserved : goal.loop-i-preserved
loop-i-preserved c =
    let i = c.loop-i.i in
    let new = c.args.new.now in
    ap (λ (l : List ℕ). set l (c.args.address + i) (get_or new i 0)) c.loop-i.invariant
    ∙ sym (put_next c.args.words.now c.args.address i new c.loop-i-test.true)
