use Rattle.std.proofs.Common.{◌≡◌, get_or, ap, ◌∙◌, sym, refl}
use Rattle.std.specs.FinSet.{contains}
use Rattle.heap_spaces.specs.Addresses.{AddressState, is_set}
use Rattle.heap_spaces.specs.Collection.{page_of}
use Rattle.heap_spaces.proofs.PageLaws.{seen, named_here}
use Rattle.heap_spaces.proofs.address_set.AddressSet.contains.Goals as goal

pub returns : goal.returns
returns c =
    let pages = c.self.inside.pages.numbers in
    let at = c.args.at in
    let bits : c.get.result ≡ get_or pages (page_of at) 0 = c.get.ensures.number ∙ ap (λ p. get_or pages p 0) c.page_of.ensures.page in
    c.has_bit.ensures
    ∙ (λ i. is_set (bits i) (c.place_of.ensures.place i))
    ∙ named_here pages (page_of at) at refl
    ∙ sym (seen pages at)
    ∙ ap (λ (s : AddressState). contains s.set at) c.self.view_is
