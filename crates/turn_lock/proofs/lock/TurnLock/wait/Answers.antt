use Rattle.std.proofs.Common.{rules, ap, ◌∙◌}
use Rattle.turn_lock.proofs.Keeps.{looks}
use Rattle.turn_lock.proofs.lock.TurnLock.wait.Goals as goal

pub load-requires : goal.load-requires
load-requires g c = (c.loop.invariant.1 ∙ c.requires.pass.lock_is, search rules, looks _ _ _ _ _ _ _ _ _ _ (ap (λ m. m.0.stage) c.loop.invariant.2 ∙ c.requires.ticket.0))
