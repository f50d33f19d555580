use Rattle.std.proofs.Common.{◌*◌, ◌∙◌, ap, sym, inl, inr}
use Rattle.std.proofs.lemmas.Bool.{false≢true, cases_lt}
use Rattle.std.specs.Ordering.{nat_cmp}
use Rattle.std.specs.FinSet.{contains, contains-empty}
use Rattle.heap_spaces.specs.Addresses.{AddressState}
use Rattle.heap_spaces.proofs.AddressLaws.{if_none, same_addresses}
use Rattle.heap_spaces.proofs.PageLaws.{none_first}
use Rattle.heap_spaces.proofs.address_set.AddressSet.least.Goals as goal

pub returns-in_err-at-clause-none : goal.returns-in_err-at-clause-none
returns-in_err-at-clause-none c =
    let inside = c.self.inside in
    if_none c.from_residual.result _ (same_addresses _ _ (λ q.
    elim (cases_lt q (64 * inside.first)) [
      | inl before ↦ sym (ap (λ (s : AddressState). contains s.set q) c.self.view_is) ∙ none_first inside.pages.numbers inside.first q c.self.invariant before
      | inr ge ↦ c.in_err-at.ensures.none q ge
    ]
    ∙ sym (contains-empty nat_cmp q)))

pub returns-clause-some : goal.returns-clause-some
returns-clause-some c =
    let inside = c.self.inside in
    let some = c.in_ok-at.ensures.some in (
      some.0,
      λ q here.
          some.2 q here
          (elim (cases_lt q (64 * inside.first)) [
            | inl before ↦ absurd (false≢true (sym (none_first inside.pages.numbers inside.first q c.self.invariant before) ∙ ap (λ (s : AddressState). contains s.set q) c.self.view_is ∙ here))
            | inr ge ↦ ge
          ]),
    )
