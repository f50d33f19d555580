use Rattle.std.proofs.Common.{◌≡◌, ◌+◌, ◌*◌, ℕ, get_or, ◌∙◌, ap, sym, inl, inr, arith}
use Rattle.std.proofs.lemmas.Bool.{false≢true, cases_lt}
use Rattle.std.specs.FinSet.{contains}
use Rattle.heap_spaces.specs.Addresses.{AddressState, is_set}
use Rattle.heap_spaces.specs.Collection.{page_of}
use Rattle.heap_spaces.proofs.AddressLaws.{if_none}
use Rattle.heap_spaces.proofs.PageLaws.{seen, none_named, named_at, least_in}
use Rattle.heap_spaces.proofs.address_set.AddressSet.first_behind.Goals as goal

pub returns-in_err-page-clause-none : goal.returns-in_err-page-clause-none
returns-in_err-page-clause-none c =
    let pages = c.self.inside.pages.numbers in
    if_none c.from_residual.result _ (λ q from. sym (ap (λ (s : AddressState). contains s.set q) c.self.view_is) ∙ seen pages q ∙ none_named pages q (c.in_err-page.ensures.none (page_of q) (omega (arith, from))))

pub returns-clause-some : goal.returns-clause-some
returns-clause-some c =
    let pages = c.self.inside.pages.numbers in
    let p = c.in_ok-page.page in
    let next = c.in_ok-page.ensures.some in
    let place = c.in_ok-place.place in
    let found = c.in_ok-place.ensures in
    let bits : c.get.result ≡ get_or pages p 0 = c.get.ensures.number in
    let view = λ (q : ℕ). ap (λ (s : AddressState). contains s.set q) c.self.view_is in (
      sym (view (64 * p + place)) ∙ named_at pages p place found.low (ap (λ b. is_set b place) (sym bits) ∙ found.some),
      omega (arith, next.behind),
      λ q here from.
          elim (cases_lt q (64 * p)) [
            | inl before ↦ absurd (false≢true (sym (seen pages q ∙ none_named pages q (next.first (page_of q) (omega (arith, from)) (omega (arith, before)))) ∙ view q ∙ here))
            | inr ge ↦ least_in pages p 0 place q (λ i low lt. ap (λ b. is_set b i) (sym bits) ∙ found.first i lt) found.low (view q ∙ here) (omega (arith, ge))
          ],
    )
