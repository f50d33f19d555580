use Rattle.std.proofs.Common.{◌≡◌, ◌≢◌, ◌%◌, ◌<◌, ℕ, get_or, set, length, false, ◌∙◌, ap, sym, arith}
use Rattle.std.specs.FinSet.{remove}
use Rattle.heap_spaces.specs.Addresses.{AddressState, is_set, named}
use Rattle.heap_spaces.specs.Collection.{page_of}
use Rattle.heap_spaces.specs.PageTable.{PageNumbers}
use Rattle.heap_spaces.proofs.PageLaws.{removed, removed_none}
use Rattle.heap_spaces.proofs.address_set.AddressSet.remove.Goals as goal

pub returns-then-bits-eq0 : goal.returns-then-bits-eq0
returns-then-bits-eq0 c =
    let pages = c.self.inside.pages.numbers in
    let view = c.self.view_is in
    let none : get_or pages (page_of c.args.at) 0 ≡ 0 = sym (c.get-bits.ensures.number ∙ ap (λ p. get_or pages p 0) c.page_of-page.ensures.page) ∙ c.if-bits-eq0.true in
    λ i. record {
      set = (sym (ap (λ (s : AddressState). s.set) view) ∙ removed_none pages c.args.at none ∙ ap (λ (s : AddressState). remove s.set c.args.at) view) i;
      room = c.args.self.now.room;
    }

pub returns : goal.returns
returns c =
    let pages = c.self.inside.pages.numbers in
    let at = c.args.at in
    let page_is = c.page_of-page.ensures.page in
    let place_is = c.place_of.ensures.place in
    let bits = c.without_bit.result in
    let view = c.self.view_is in
    let lt : page_of at < length pages = omega (arith, c.put.ensures.within, page_is) in
    let was : c.get-bits.result ≡ get_or pages (page_of at) 0 = c.get-bits.ensures.number ∙ ap (λ p. get_or pages p 0) page_is in
    let here : is_set bits (at % 64) ≡ false = ap (is_set bits) (sym place_is) ∙ c.without_bit.ensures.here in
    let others : (i : ℕ) → i < 64 → i ≢ at % 64 → is_set bits i ≡ is_set (get_or pages (page_of at) 0) i = λ i low apart. c.without_bit.ensures.other i low (λ e. apart (e ∙ place_is)) ∙ ap (λ v. is_set v i) was in
    let put : named c.put.new.self.numbers ≡ named (set pages (page_of at) bits) = ap (λ (t : PageNumbers). named t.numbers) c.put.ensures.put ∙ ap (λ p. named (set pages p bits)) page_is in
    λ i. record {
      set = (put ∙ removed pages at bits lt here others ∙ ap (λ (s : AddressState). remove s.set at) view) i;
      room = (ap (λ (t : PageNumbers). t.room) c.put.ensures.put ∙ ap (λ (s : AddressState). s.room) view) i;
    }
