use Rattle.std.proofs.Common.{◌≡◌, ℕ, ◌+◌, ◌-◌, ◌<◌, List, length, leb, sym, ap, subst, ◌∙◌, arith, inl, inr}
use Rattle.std.specs.Bool.{then_some}
use Rattle.std.specs.Prelude.{max, Option}
use Rattle.std.specs.List.{enumerate_from}
use Rattle.std.proofs.lemmas.Bool.{cases_lt, eqb-false, le-leb, lt-leb}
use Rattle.page_redo.specs.Pages.{page_of}
use Rattle.page_cache.specs.ByPage.{IsNextOf}
use Rattle.page_cache.specs.Writing.{pages_of}
use Rattle.page_cache.proofs.ByPageLaws.{end_below, next_some, next_none}
use Rattle.page_cache.proofs.effect.next_of_words.Goals as goal

-- the next page, if it is not past the last one
next_if : (address : ℕ) (words : List ℕ) (from next : ℕ) (found : Option ℕ) → 0 < length words → next ≡ max (page_of address) from
    → found ≡ then_some (leb next (page_of (address + (length words - 1)))) next → IsNextOf (pages_of (enumerate_from address words)) from found
next_if address words from next found some is chosen =
    let last = page_of (address + (length words - 1)) in
    let P : Option ℕ → Type 0 = λ o. IsNextOf (pages_of (enumerate_from address words)) from o in
    elim (cases_lt last next) [
      | inl past ↦ subst P (sym (chosen ∙ ap (λ b. then_some b next) (lt-leb next last past))) (next_none address words from next is past)
      | inr within ↦ subst P (sym (chosen ∙ ap (λ b. then_some b next) (le-leb next last within))) (next_some address words from next some is within)
    ]

pub overflow_add-last : goal.overflow_add-last
overflow_add-last c =
    let some = eqb-false (length c.args.words.now) 0 (sym c.is_empty.ensures ∙ c.if-is_empty.false) in
    omega (arith, end_below _ c.args.address c.args.words.now c.requires (omega arith))

pub overflow_cast-next : goal.overflow_cast-next
overflow_cast-next c =
    let some = eqb-false (length c.args.words.now) 0 (sym c.is_empty.ensures ∙ c.if-is_empty.false) in
    omega (arith, end_below _ c.args.address c.args.words.now c.requires (omega arith))

pub returns : goal.returns
returns c =
    let some = eqb-false (length c.args.words.now) 0 (sym c.is_empty.ensures ∙ c.if-is_empty.false) in
    next_if c.args.address c.args.words.now c.args.from c.max-next.result c.then_some.result (omega arith) c.max-next.ensures c.then_some.ensures
