use Rattle.std.proofs.Common.{ap, ◌∙◌}
use Rattle.heap_spaces.specs.Addresses.{named}
use Rattle.heap_spaces.specs.PageTable.{PageNumbers}
use Rattle.heap_spaces.proofs.PageLaws.{none_of_none}
use Rattle.heap_spaces.proofs.address_set.AddressSet.new.Goals as goal

pub returns : goal.returns
returns c = λ i. record { set = (ap (λ (t : PageNumbers). named t.numbers) c.new.ensures ∙ none_of_none) i; room = ap (λ (t : PageNumbers). t.room) c.new.ensures i }
