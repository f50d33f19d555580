use Rattle.turn_lock.proofs.lock.TurnLock.give.Given as goal

abbrev pub ghosts-raise : goal.ghosts-raise
ghosts-raise g a = record { log = g.T.Turns.entries a._value.now; empty = g.T.Turns.empty_turns a._value.now }
