use Rattle.std.proofs.Common.{◌≡◌, get_or, ◌∙◌, ap, sym}
use Rattle.heap_spaces.specs.Addresses.{AddressState, named, without_page}
use Rattle.heap_spaces.specs.PageTable.{PageNumbers}
use Rattle.heap_spaces.proofs.PageLaws.{cleared, cleared_none}
use Rattle.heap_spaces.proofs.address_set.AddressSet.remove_page.Goals as goal

pub returns-then-get-eq0 : goal.returns-then-get-eq0
returns-then-get-eq0 c =
    let pages = c.self.inside.pages.numbers in
    let page = c.args.page in
    let view = c.self.view_is in
    let none : get_or pages page 0 ≡ 0 = sym c.get.ensures.number ∙ c.if-get-eq0.true in
    λ i. record {
      set = (sym (ap (λ (s : AddressState). s.set) view) ∙ cleared_none pages page none ∙ ap (λ (s : AddressState). without_page s.set page) view) i;
      room = c.args.self.now.room;
    }

pub returns : goal.returns
returns c =
    let pages = c.self.inside.pages.numbers in
    let page = c.args.page in
    let view = c.self.view_is in
    c.skip_empty_pages.ensures
    ∙ (λ i. record {
      set = (ap (λ (t : PageNumbers). named t.numbers) c.put.ensures.put ∙ cleared pages page c.put.ensures.within ∙ ap (λ (s : AddressState). without_page s.set page) view) i;
      room = (ap (λ (t : PageNumbers). t.room) c.put.ensures.put ∙ ap (λ (s : AddressState). s.room) view) i;
    })
