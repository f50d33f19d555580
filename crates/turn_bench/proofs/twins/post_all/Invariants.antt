use Rattle.turn_lock.specs.Passes.{IsPassOf, IsResting}
use Rattle.turn_bench.proofs.twins.post_all.Given as goal

abbrev pub invariant-loop-number : goal.invariant-loop-number
invariant-loop-number g l = record { of_lock : IsPassOf l.lock l.pass; resting : IsResting l.pass }
