use Rattle.std.proofs.Common.{rules}
use Rattle.turn_lock.proofs.Keeps.{takes_ticket}
use Rattle.turn_lock.proofs.lock.TurnLock.queue.Goals as goal

pub fetch_add-requires : goal.fetch_add-requires
fetch_add-requires g c = let pass = c.requires.pass in
    (pass.0.lock_is, search rules, takes_ticket _ _ _ _ _ _ _ _ _ _ pass.1.stage pass.0.number)
