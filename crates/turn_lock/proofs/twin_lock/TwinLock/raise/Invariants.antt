use Rattle.turn_lock.specs.TwinSteps.{raises_value}
use Rattle.turn_lock.specs.TwinPasses.{me_of}
use Rattle.turn_lock.proofs.twin_lock.TwinLock.raise.Given as goal

abbrev pub ghosts-raise_front : goal.ghosts-raise_front
ghosts-raise_front g a = record { log = g.T.Turns.entries a._value.now; empty = g.T.Turns.empty_turns a._value.now; more = raises_value (me_of a.pass.now).0.more a._value.now a._owes }
