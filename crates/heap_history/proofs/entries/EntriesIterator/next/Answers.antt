use Rattle.heap_history.proofs.KeptLists.{within_others}
use Rattle.heap_history.proofs.entries.EntriesIterator.next.Goals as goal

pub invariant_of-self : goal.invariant_of-self
invariant_of-self c = within_others c.self.inside.whole.now c.self.inside.kept.now c.in_ok-first.first.now c.in_ok-first.others.now c.in_ok-first.ensures.cases.0 c.self.invariant
