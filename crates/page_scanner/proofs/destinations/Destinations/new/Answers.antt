use Rattle.page_scanner.proofs.Chains.{chained_none}
use Rattle.page_scanner.proofs.destinations.Destinations.new.Goals as goal

pub invariant_of-result : goal.invariant_of-result
invariant_of-result c = chained_none c.new.result.items c.new-2.result.items c.new.ensures.items c.new-2.ensures.items
