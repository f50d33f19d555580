use Rattle.std.proofs.Common.{sym, subst}
use Rattle.shared_heap.proofs.FollowsLaws.{follows_itself}
use Rattle.turn_lock.specs.Merging.{Rise}
use Rattle.shared_heap.proofs.shared.SharedHeap.new.Goals as goal

pub new-requires-clause-starts : goal.new-requires-clause-starts
new-requires-clause-starts g c = follows_itself c.args.heap

pub returns-in-Ok-clause-passes : goal.returns-in-Ok-clause-passes
returns-in-Ok-clause-passes g c = λ i pass at.
    let n = c.in-Ok.ensures.passes i pass at in
    (record { of_lock = n.of_lock; resting = n.resting; rises = subst (Rise 0) (sym n.mine) tt }, n.number_is, n.label_is, n.seen, n.mine, n.turns, n.front)
