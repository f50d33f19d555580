use Rattle.std.proofs.Common.{rules, ◌≡◌, subst}
use Rattle.turn_lock.specs.Rule.{is_held}
use Rattle.turn_lock.specs.TwinSteps.{BesideKnown}
use Rattle.turn_lock.specs.TwinPasses.{first_of, seen_of, own_of, me_of}
use Rattle.turn_lock.proofs.twin_lock.TwinLock.wait_device.Goals as goal

pub take_device-device-requires-clause-slot : goal.take_device-device-requires-clause-slot
take_device-device-requires-clause-slot g c = let got = c.look_at_device.ensures.device in (got.0, search rules)

pub returns-clause-beside : goal.returns-clause-beside
returns-clause-beside g c = let t = g.T.Turns in let w = g.T.Twins in let got = c.look_at_device.ensures.device in let first = first_of c.args.self.now in let pass = c.args.pass.now in
    let is : got.0 ≡ c.take_device-device.result = search rules in
    subst (λ d. BesideKnown t.entries (t.follows first) (w.beside first) (seen_of pass) (is_held (me_of pass).0.value.stage) (own_of pass) d.device) is (got.4 _ c.requires.pass.first_is)
