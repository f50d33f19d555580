use Rattle.std.proofs.Common.{◌≡◌, refl, ap, ◌∙◌}
use Rattle.turn_lock.specs.TwinPasses.{saw_of, uncounted}
use Rattle.twin_ledger.proofs.Mirrors.{telling}
use Rattle.twin_ledger.proofs.posting.tell.Goals as goal

pub raise-requires-clause-beside : goal.raise-requires-clause-beside
raise-requires-clause-beside g c = let saw = c.requires.owing.saw refl in let told = c.tell_once.ensures in
    let queued : saw_of c.queue-ticket.new.pass ≡ saw_of c.args.pass.now = ap (λ m. uncounted m.0.more.saw) c.queue-ticket.ensures.queued.2 in
    (c.wait-held.result.value, c.wait-held.ensures.own, telling _ saw.0 c.wait-held.result.value c.tell_once.new.self _ (ap uncounted c.wait-held.ensures.device.0.saw ∙ (queued ∙ saw.1)) saw.2 (ap (λ v. v.items) told.passed.0) told.told)
