use Rattle.std.proofs.Common.{ap, ◌∙◌}
use Rattle.heap_spaces.specs.Addresses.{AddressState}
use Rattle.heap_spaces.proofs.PageLaws.{same_named}
use Rattle.heap_spaces.proofs.address_set.AddressSet.make_room.Goals as goal

pub returns-clause-same : goal.returns-clause-same
returns-clause-same c = same_named c.make_room.new.self.numbers c.self.inside.pages.numbers c.make_room.ensures.same ∙ ap (λ (s : AddressState). s.set) c.self.view_is
