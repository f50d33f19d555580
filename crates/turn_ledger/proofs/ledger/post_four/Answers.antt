use Rattle.std.proofs.Common.{rules, ◌++◌, length, ap, ap₂, arith}
use Rattle.turn_ledger.proofs.ledger.post_four.Goals as goal

pub join-left-requires-after_bounds : goal.join-left-requires-after_bounds
join-left-requires-after_bounds g c κs within =
    let made = c.in_ok-lock.ensures in let found = c.all_four-one.ensures in
    let one = made.passes 0 _ found.first.0 in let two = made.passes 1 _ found.first.1 in let three = made.passes 2 _ found.second.0 in let four = made.passes 3 _ found.second.1 in
    let before = ap (λ l. l.before) made.lock.0 in (
      (
        (one.of_lock, one.resting),
        ((one.mine, omega (arith, before, c.requires.0, ap length one.seen)), ((two.of_lock, two.resting), ((two.mine, omega (arith, before, c.requires.0, ap length two.seen)), (ap₂ (λ x y. x ++ y) one.number_is two.number_is, search rules)))),
      ),
      (
        (three.of_lock, three.resting),
        ((three.mine, omega (arith, before, c.requires.0, ap length three.seen)), ((four.of_lock, four.resting), ((four.mine, omega (arith, before, c.requires.0, ap length four.seen)), (ap₂ (λ x y. x ++ y) three.number_is four.number_is, search rules)))),
      ),
    )
