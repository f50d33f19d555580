use Rattle.std.proofs.Common.{rules}
use Rattle.turn_lock.proofs.Keeps.{passes_on}
use Rattle.turn_lock.proofs.lock.TurnLock.pass_on.Goals as goal

pub fetch_add-requires : goal.fetch_add-requires
fetch_add-requires g c = let value = c.requires.value in
    (c.requires.pass.0, search rules, passes_on _ _ _ _ _ _ _ _ _ _ value.0 c.requires.pass.1 value.1 value.2)
