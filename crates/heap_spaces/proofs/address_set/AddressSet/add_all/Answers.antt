use Rattle.std.proofs.Common.{◌≡◌, ◌==◌, ◌||◌, ◌%◌, get_or, set, bit_or, ap, ◌∙◌}
use Rattle.std.specs.FinSet.{contains}
use Rattle.heap_spaces.specs.Addresses.{AddressState, named}
use Rattle.heap_spaces.specs.PageAddresses.{waits_in}
use Rattle.heap_spaces.specs.Collection.{page_of}
use Rattle.heap_spaces.specs.PageTable.{PageNumbers}
use Rattle.heap_spaces.proofs.WaitingLaws.{none_waits, all_added}
use Rattle.heap_spaces.proofs.address_set.AddressSet.add_all.Goals as goal

pub returns-then-waiting-eq0-clause-all : goal.returns-then-waiting-eq0-clause-all
returns-then-waiting-eq0-clause-all c q = none_waits (contains c.args.self.now.set q) c.args.waiting.bits (q % 64) (page_of q == c.args.waiting.page) c.if-waiting-eq0.true

pub returns-clause-all : goal.returns-clause-all
returns-clause-all c q =
    let pages = c.self.inside.pages.numbers in
    let page = c.args.waiting.page in
    let bits : c.get.result ≡ get_or pages page 0 = c.get.ensures.number in
    ap (λ (t : PageNumbers). contains (named t.numbers) q) c.put.ensures.put
    ∙ ap (λ b. contains (named (set pages page (bit_or b c.args.waiting.bits))) q) bits
    ∙ all_added pages page c.args.waiting.bits c.put.ensures.within q
    ∙ ap (λ (s : AddressState). contains s.set q || waits_in c.args.waiting q) c.self.view_is
