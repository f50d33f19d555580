use Rattle.twin_ledger.proofs.Mirrors.{ready}
use Rattle.twin_tests.proofs.gate.begin.Goals as goal

pub returns-clause-ready : goal.returns-clause-ready
returns-clause-ready c = let made = c.in-Ok.ensures.passes in (ready (made 0 _ c.both-one.ensures.first), ready (made 1 _ c.both-one.ensures.second))

pub returns-clause-numbers : goal.returns-clause-numbers
returns-clause-numbers c = let made = c.in-Ok.ensures.passes in (c.in-Ok.ensures.lock.2, (made 0 _ c.both-one.ensures.first).number_is, (made 1 _ c.both-one.ensures.second).number_is)
