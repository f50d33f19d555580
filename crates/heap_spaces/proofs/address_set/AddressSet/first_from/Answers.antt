use Rattle.std.proofs.Common.{◌≡◌, ◌+◌, ◌*◌, ℕ, get_or, ◌∙◌, ap, sym, inl, inr, arith}
use Rattle.std.proofs.lemmas.Bool.{false≢true, cases_lt}
use Rattle.std.specs.FinSet.{contains}
use Rattle.heap_spaces.specs.Addresses.{AddressState, is_set}
use Rattle.heap_spaces.proofs.AddressLaws.{if_none}
use Rattle.heap_spaces.proofs.PageLaws.{named_at, least_in, none_in}
use Rattle.heap_spaces.proofs.address_set.AddressSet.first_from.Goals as goal

pub returns-in-Some-clause-some : goal.returns-in-Some-clause-some
returns-in-Some-clause-some c =
    let pages = c.self.inside.pages.numbers in
    let page = c.page_of-page.result in
    let place = c.in-Some.place in
    let found = c.in-Some.ensures in
    let bits : c.get.result ≡ get_or pages page 0 = c.get.ensures.number in
    let view = λ (q : ℕ). ap (λ (s : AddressState). contains s.set q) c.self.view_is in (
      sym (view (64 * page + place)) ∙ named_at pages page place found.low (ap (λ b. is_set b place) (sym bits) ∙ found.some),
      omega (arith, found.from, c.page_of-page.ensures.page, c.place_of.ensures.place),
      λ q here from.
          least_in pages page c.place_of.result place q (λ i low lt. ap (λ b. is_set b i) (sym bits) ∙ found.first i low lt) found.low (view q ∙ here)
          (omega (arith, from, c.page_of-page.ensures.page, c.place_of.ensures.place)),
    )

pub returns-in_err-at-clause-none : goal.returns-in_err-at-clause-none
returns-in_err-at-clause-none c =
    let pages = c.self.inside.pages.numbers in
    let page = c.page_of-page.result in
    let bits : c.get.result ≡ get_or pages page 0 = c.get.ensures.number in
    if_none c.from_residual.result _ (λ q from.
    elim (cases_lt q (64 * (page + 1))) [
      | inl lt ↦
          sym (ap (λ (s : AddressState). contains s.set q) c.self.view_is)
          ∙ none_in pages page c.place_of.result q (λ i low. ap (λ b. is_set b i) (sym bits) ∙ c.in_default.ensures.none i low)
          (omega (arith, lt, from, c.page_of-page.ensures.page)) (omega (arith, from, c.page_of-page.ensures.page, c.place_of.ensures.place))
      | inr ge ↦ c.in_err-at.ensures.none q ge
    ])

pub returns-clause-some : goal.returns-clause-some
returns-clause-some c =
    let pages = c.self.inside.pages.numbers in
    let page = c.page_of-page.result in
    let some = c.in_ok-at.ensures.some in
    let bits : c.get.result ≡ get_or pages page 0 = c.get.ensures.number in (
      some.0,
      omega (arith, some.1, c.page_of-page.ensures.page),
      λ q here from.
          some.2 q here
          (elim (cases_lt q (64 * (page + 1))) [
            | inl lt ↦
                absurd (false≢true (sym (none_in pages page c.place_of.result q (λ i low. ap (λ b. is_set b i) (sym bits) ∙ c.in_default.ensures.none i low)
                (omega (arith, lt, from, c.page_of-page.ensures.page)) (omega (arith, from, c.page_of-page.ensures.page, c.place_of.ensures.place)))
                ∙ ap (λ (s : AddressState). contains s.set q) c.self.view_is
                ∙ here))
            | inr ge ↦ ge
          ]),
    )
