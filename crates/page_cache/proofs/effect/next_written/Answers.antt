use Rattle.std.proofs.Common.{◌≡◌, ℕ, ◌+◌, ◌++◌, List, [], ◌∷◌, get_or, leb, take, sym, ap, subst, ◌∙◌, inl, inr}
use Rattle.std.specs.Bool.{then_some}
use Rattle.std.specs.Prelude.{Option}
use Rattle.std.proofs.lemmas.Bool.{cases_lt, le-leb, lt-leb}
use Rattle.std.proofs.lemmas.List.{take_more}
use Rattle.page_redo.specs.Pages.{page_of}
use Rattle.page_cache.specs.ByPage.{IsNextOf}
use Rattle.page_cache.specs.Writing.{pages_of}
use Rattle.page_cache.proofs.ByPageLaws.{next_one, next_past, pages_append}
use Rattle.page_cache.proofs.effect.next_written.Goals as goal

-- a page, if it is not before that one
one_if : (page from : ℕ) (found : Option ℕ) → found ≡ then_some (leb from page) page → IsNextOf (page ∷ []) from found
one_if page from found chosen =
    let P : Option ℕ → Type 0 = λ o. IsNextOf (page ∷ []) from o in
    elim (cases_lt page from) [
      | inl before ↦ subst P (sym (chosen ∙ ap (λ b. then_some b page) (lt-leb from page before))) (next_past page from before)
      | inr behind ↦ subst P (sym (chosen ∙ ap (λ b. then_some b page) (le-leb from page behind))) (next_one page from behind)
    ]

pub loop-address-preserved : goal.loop-address-preserved
loop-address-preserved c =
    let writes = c.args.writes.now in
    let i = c.loop-address.address-index in
    let write = get_or writes i (0, 0) in
    let joined = c.earlier-next.ensures (pages_of (take i writes)) (page_of write.0 ∷ []) c.args.from c.loop-address.invariant (one_if (page_of write.0) c.args.from c.then_some.result c.then_some.ensures) in
    let here : pages_of (take i writes) ++ page_of write.0 ∷ [] ≡ pages_of (take (i + 1) writes) =
    sym (pages_append (take i writes) (write ∷ [])) ∙ ap pages_of (sym (take_more writes i (0, 0) c.loop-address-test.true)) in
    subst (λ (l : List ℕ). IsNextOf l c.args.from c.earlier-next.result) here joined
