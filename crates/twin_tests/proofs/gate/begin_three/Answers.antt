use Rattle.twin_ledger.proofs.Mirrors.{ready}
use Rattle.twin_tests.proofs.gate.begin_three.Goals as goal

pub returns : goal.returns
returns c = let made = c.in-Ok.ensures.passes in let three = c.all_three-ahead.ensures in
    record { ready = (ready (made 0 _ three.first), ready (made 1 _ three.second), ready (made 2 _ three.third)) }
