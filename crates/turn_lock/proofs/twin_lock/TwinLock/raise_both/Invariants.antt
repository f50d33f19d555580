use Rattle.turn_lock.specs.TwinSteps.{raises_both}
use Rattle.turn_lock.specs.TwinPasses.{me_of}
use Rattle.turn_lock.proofs.twin_lock.TwinLock.raise_both.Given as goal

abbrev pub ghosts-raise_front_of_both : goal.ghosts-raise_front_of_both
ghosts-raise_front_of_both g a = record { log = g.T.Turns.entries a._value.now; empty = g.T.Turns.empty_turns a._value.now; more = raises_both (me_of a.pass.now).0.more a._value.now (record { device = a._device.now.device; turns = a._device.now.turns }) a._owes }
