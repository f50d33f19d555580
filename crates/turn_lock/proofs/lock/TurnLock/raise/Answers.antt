use Rattle.std.proofs.Common.{rules}
use Rattle.turn_lock.proofs.Keeps.{raises}
use Rattle.turn_lock.proofs.lock.TurnLock.raise.Goals as goal

pub fetch_max-requires : goal.fetch_max-requires
fetch_max-requires g c = let pass = c.requires.pass in let left = c.requires.left in
    (pass.0.lock_is, search rules, rw (left.0, left.1) (raises _ _ _ _ _ _ _ _ _ _ _ _ _ pass.1.stage pass.0.first_is c.requires.one_turn))
