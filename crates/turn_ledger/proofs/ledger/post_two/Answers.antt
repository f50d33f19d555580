use Rattle.std.proofs.Common.{◌≡◌, ℕ, ◌≤◌, length, take, drop, List, ap, subst, arith}
use Rattle.turn_lock.specs.Turning.{EachOnce, StandIn, times, places}
use Rattle.turn_lock.specs.Merging.{entries_of}
use Rattle.turn_lock.specs.Passes.{first_of, mine_of}
use Rattle.turn_lock.proofs.Lists.{length_longer}
use Rattle.turn_lock.proofs.TurnLaws.{begins_length}
use Rattle.turn_ledger.specs.Merged.{IsMerge}
use Rattle.turn_ledger.proofs.Merges.{two_make_all}
use Rattle.turn_ledger.proofs.ledger.post_two.Goals as goal

pub join-one-requires-after_bounds : goal.join-one-requires-after_bounds
join-one-requires-after_bounds g c κs within =
    let made = c.in_ok-lock.ensures in let one = made.passes 0 _ c.both-one.ensures.first in let two = made.passes 1 _ c.both-one.ensures.second in
    let before = ap (λ l. l.before) made.lock.0 in (
      ((one.of_lock, one.resting, one.number_is), (one.mine, omega (arith, before, c.requires.0, ap length one.seen))),
      ((two.of_lock, two.resting, two.number_is), (two.mine, omega (arith, before, c.requires.0, ap length two.seen))),
    )

pub returns-clause-posts : goal.returns-clause-posts
returns-clause-posts g c =
    let first = c.join-one.ensures.first in let second = c.join-one.ensures.second in let joined = c.join.ensures.joined in let end = c.close.ensures in
    let low : ℕ = (first_of c.in_ok-lock.lock).before in let log : List ℕ = c.close.result.posts.items in
    let before : low ≡ c.args.ledger.before = ap (λ l. l.before) c.in_ok-lock.ensures.lock.0 in
    let m = mine_of c.join-one.result.0.0 in let n = mine_of c.join-one.result.1.0 in
    let long : low ≤ length log = omega (arith, length_longer low _ _ first.1.1.1 second.1.1.1, ap length joined.seen, begins_length _ _ end.history) in
    let all : IsMerge (entries_of m) (entries_of n) (drop low log) = two_make_all low log m n long first.1.1.0 second.1.1.0 (subst (StandIn log) joined.mine end.stand)
    (subst (λ l. EachOnce (λ k. times k (places l)) low (length log)) joined.mine end.once) in
    subst (λ x. IsMerge x (take c.join-one.result.1.1 c.args.second.now) (drop c.args.ledger.before log)) first.1.0
    (subst (λ y. IsMerge (entries_of m) y (drop c.args.ledger.before log)) second.1.0 (subst (λ (k : ℕ). IsMerge (entries_of m) (entries_of n) (drop k log)) before all))
