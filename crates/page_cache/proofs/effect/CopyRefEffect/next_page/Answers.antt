use Rattle.std.proofs.Common.{◌≡◌, ◌+◌, ◌*◌, ◌^◌, ◌++◌, ℕ, List, [], ◌∷◌, sym, subst, ◌∙◌}
use Rattle.std.specs.List.{enumerate_from}
use Rattle.log_records.specs.Record.{copy_record}
use Rattle.log_machine.specs.Machine.{effect}
use Rattle.page_redo.specs.Pages.{page_of}
use Rattle.page_cache.specs.ByPage.{IsNextOf}
use Rattle.page_cache.specs.Writing.{AreBelow, pages_of}
use Rattle.page_cache.proofs.ByPageLaws.{copy_below, next_touched, pages_append}
use Rattle.page_cache.proofs.effect.CopyRefEffect.next_page.Goals as goal

pub next_of_words-requires : goal.next_of_words-requires
next_of_words-requires c =
    let copy = c.args.self.now in
    let below = (copy_below (2 ^ 38) copy c.requires).0 in
    subst (λ (l : List ℕ). AreBelow (2 ^ 38) (enumerate_from c.to-2.result l)) (sym c.words.ensures) (subst (λ (a : ℕ). AreBelow (2 ^ 38) (enumerate_from a copy.words)) (sym c.to-2.ensures) below)

pub returns : goal.returns
returns c =
    let copy = c.args.self.now in
    let own : List ℕ = pages_of (enumerate_from c.to-2.result c.words.result.now) in
    let joined = c.earlier.ensures own (page_of c.from.result ∷ []) c.args.from c.next_of_words.ensures c.next_of_words-2.ensures in
    let here : own ++ page_of c.from.result ∷ [] ≡ pages_of (effect [] (copy_record copy)) =
    (λ i. pages_of (enumerate_from (c.to-2.ensures i) (c.words.ensures i)) ++ page_of (c.from.ensures i) ∷ [])
    ∙ sym (pages_append (enumerate_from copy.to copy.words) ((copy.from, 4 * copy.to + 2) ∷ [])) in
    next_touched [] (copy_record copy) c.args.from c.earlier.result (subst (λ (l : List ℕ). IsNextOf l c.args.from c.earlier.result) here joined)
