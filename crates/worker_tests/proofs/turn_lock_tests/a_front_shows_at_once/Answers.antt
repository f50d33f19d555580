use Rattle.worker_tests.proofs.turn_lock_tests.a_front_shows_at_once.Goals as goal

pub loop-number-init : goal.loop-number-init
loop-number-init g c =
    let made = c.in-Ok.ensures in let one = made.passes 0 _ c.both-writer.ensures.first in let two = made.passes 1 _ c.both-writer.ensures.second in
    record { writer = one.of_lock; writer_rests = one.resting; writer_number = one.number_is; watcher = two.of_lock; watcher_rests = two.resting; watcher_number = two.number_is }
