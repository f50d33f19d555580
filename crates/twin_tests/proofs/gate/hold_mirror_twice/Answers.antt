use Rattle.std.proofs.Common.{rules, ◌≡◌}
use Rattle.turn_lock.specs.TwinPasses.{owes_of}
use Rattle.twin_ledger.proofs.Mirrors.{as_raised}
use Rattle.twin_tests.proofs.gate.hold_mirror_twice.Goals as goal

pub put_device-requires-clause-beside : goal.put_device-requires-clause-beside
put_device-requires-clause-beside g c = let owes : owes_of c.wait_device-held.new.pass ≡ 0 = search rules in
    (c.wait_device-held.result.device, c.wait_device-held.ensures.device.0, as_raised _ c.wait_device-held.result.device _ _ owes)

pub put_device-requires-2-clause-beside : goal.put_device-requires-2-clause-beside
put_device-requires-2-clause-beside g c = let owes : owes_of c.wait_device-again.new.pass ≡ 0 = search rules in
    (c.wait_device-again.result.device, c.wait_device-again.ensures.device.0, as_raised _ c.wait_device-again.result.device _ _ owes)
