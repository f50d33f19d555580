use Rattle.std.proofs.Common.{rules, ◌≡◌, subst}
use Rattle.turn_lock.specs.TwinSteps.{LaterBeside}
use Rattle.turn_lock.specs.TwinPasses.{first_of, saw_of}
use Rattle.turn_lock.proofs.TwinLaws.{saw_known}
use Rattle.turn_lock.proofs.twin_lock.TwinLock.wait.Goals as goal

pub returns-clause-beside : goal.returns-clause-beside
returns-clause-beside g c = let w = g.T.Twins in let got = c.look.ensures.value in let first = first_of c.args.self.now in
    let is : got.0 ≡ c.take.result = search rules in let found = got.4 _ c.requires.pass.first_is in
    subst (LaterBeside (w.beside first) w.later (saw_of c.args.pass.now)) is (found.0.device, found.1, saw_known w.later _ _ found.2)
