use Rattle.std.proofs.Common.{◌≡◌, ◌+◌, ◌*◌, get_or, ◌∙◌, ap, sym}
use Rattle.std.specs.FinSet.{contains}
use Rattle.heap_spaces.specs.Addresses.{AddressState, is_set}
use Rattle.heap_spaces.proofs.PageLaws.{bits_named}
use Rattle.heap_spaces.proofs.address_set.AddressSet.bits_in.Goals as goal

pub returns : goal.returns
returns c place low =
    let pages = c.self.inside.pages.numbers in
    let bits : c.get.result ≡ get_or pages c.args.page 0 = c.get.ensures.number in
    ap (λ b. is_set b place) bits
    ∙ sym (bits_named pages c.args.page place low)
    ∙ ap (λ (s : AddressState). contains s.set (64 * c.args.page + place)) c.self.view_is
