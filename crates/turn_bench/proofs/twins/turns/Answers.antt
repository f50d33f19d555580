use Rattle.std.proofs.Common.{get_or, arith}
use Rattle.std.proofs.lemmas.Option.{slice_get-get_or}
use Rattle.turn_bench.proofs.twins.turns.Goals as goal

pub post_each-requires-after_bounds : goal.post_each-requires-after_bounds
post_each-requires-after_bounds g c κs within = λ k d lt.
    let passes = c.in-Ok.passes.items in
    let new = c.in-Ok.ensures.passes k (get_or passes k d) (slice_get-get_or passes k d (omega (arith, lt))) in
    (new.of_lock, new.resting)
