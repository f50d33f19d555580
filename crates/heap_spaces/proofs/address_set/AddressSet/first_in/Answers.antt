use Rattle.std.proofs.Common.{◌≡◌, ◌+◌, ◌*◌, get_or, ◌∙◌, ap, sym, arith}
use Rattle.std.specs.FinSet.{contains}
use Rattle.heap_spaces.specs.Addresses.{AddressState, is_set}
use Rattle.heap_spaces.proofs.AddressLaws.{if_none}
use Rattle.heap_spaces.proofs.PageLaws.{seen, none_named, named_at}
use Rattle.heap_spaces.proofs.address_set.AddressSet.first_in.Goals as goal

pub returns-in_err-place-clause-none : goal.returns-in_err-place-clause-none
returns-in_err-place-clause-none c =
    let pages = c.self.inside.pages.numbers in
    let bits : c.get.result ≡ get_or pages c.args.page 0 = c.get.ensures.number in
    if_none c.from_residual.result _ (λ q here.
    sym (ap (λ (s : AddressState). contains s.set q) c.self.view_is)
    ∙ seen pages q
    ∙ none_named pages q (ap (λ p. get_or pages p 0) here ∙ sym bits ∙ c.in_err-place.ensures.none))

pub returns-clause-some : goal.returns-clause-some
returns-clause-some c =
    let pages = c.self.inside.pages.numbers in
    let place = c.in_ok-place.place in
    let low = c.in_ok-place.ensures.low in
    let bits : c.get.result ≡ get_or pages c.args.page 0 = c.get.ensures.number in (
      sym (ap (λ (s : AddressState). contains s.set (64 * c.args.page + place)) c.self.view_is)
          ∙ named_at pages c.args.page place low (ap (λ b. is_set b place) (sym bits) ∙ c.in_ok-place.ensures.some),
      omega (arith, low),
    )
