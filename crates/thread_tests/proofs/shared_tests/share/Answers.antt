use Rattle.thread_tests.proofs.shared_tests.share.Goals as goal

pub returns-clause-one : goal.returns-clause-one
returns-clause-one g c = let new = c.in-Ok.ensures.passes 0 c.all_three-one.result.0 c.all_three-one.ensures.first in (new.0, new.2, new.1)

pub returns-clause-two : goal.returns-clause-two
returns-clause-two g c = let new = c.in-Ok.ensures.passes 1 c.all_three-one.result.1 c.all_three-one.ensures.second in (new.0, new.2, new.1)

pub returns-clause-three : goal.returns-clause-three
returns-clause-three g c = let new = c.in-Ok.ensures.passes 2 c.all_three-one.result.2 c.all_three-one.ensures.third in (new.0, new.2, new.1)
