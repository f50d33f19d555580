use Rattle.std.proofs.Common.{rules}
use Rattle.turn_lock.proofs.Keeps.{reads_front}
use Rattle.turn_lock.proofs.lock.TurnLock.front.Goals as goal

pub load-requires : goal.load-requires
load-requires g c = (c.requires.lock_is, search rules, reads_front _ _ _ _ _ _ _ _ _ _)
