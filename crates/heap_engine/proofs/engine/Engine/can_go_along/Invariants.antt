use Rattle.heap_engine.proofs.FlipAlong.{GoAlongUpto}
use Rattle.heap_engine.proofs.engine.Engine.can_go_along.Given as goal

abbrev pub invariant-loop-session : goal.invariant-loop-session
invariant-loop-session l = GoAlongUpto l.words l.pairs l.self.table l.session
