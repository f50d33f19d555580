use Rattle.std.proofs.Common.{ℕ, List, length, sym, subst, arith}
use Rattle.std.specs.List.{enumerate_from}
use Rattle.page_cache.specs.Writing.{AreBelow}
use Rattle.page_cache.proofs.ByPageLaws.{copy_below}
use Rattle.page_cache.proofs.effect.CopyRefEffect.put_on.Goals as goal

pub put_words_on-requires : goal.put_words_on-requires
put_words_on-requires c =
    let copy = c.args.self.now in
    let end = length c.args.words.now in
    let below = (copy_below end copy c.requires).0 in
    subst (λ (l : List ℕ). AreBelow end (enumerate_from c.to-2.result l)) (sym c.words.ensures) (subst (λ (a : ℕ). AreBelow end (enumerate_from a copy.words)) (sym c.to-2.ensures) below)

pub put_words_on-requires-2 : goal.put_words_on-requires-2
put_words_on-requires-2 c =
    let end = length c.args.words.now in
    (omega (arith, (copy_below end c.args.self.now c.requires).1, c.from.ensures, c.put_words_on.auto.words), tt)
