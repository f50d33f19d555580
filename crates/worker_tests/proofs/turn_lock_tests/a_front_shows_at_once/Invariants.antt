use Rattle.std.proofs.Common.{◌≡◌, [], ◌∷◌}
use Rattle.turn_lock.specs.Passes.{pass_numbers, IsPassOf, IsResting}
use Rattle.worker_tests.proofs.turn_lock_tests.a_front_shows_at_once.Given as goal

abbrev pub invariant-loop-number : goal.invariant-loop-number
invariant-loop-number g l = record {
  writer : IsPassOf l.lock l.writer;
  writer_rests : IsResting l.writer;
  writer_number : pass_numbers l.writer ≡ 0 ∷ [];
  watcher : IsPassOf l.lock l.watcher;
  watcher_rests : IsResting l.watcher;
  watcher_number : pass_numbers l.watcher ≡ 1 ∷ [];
}
