use Rattle.std.proofs.Common.{get_or, arith}
use Rattle.std.proofs.lemmas.Option.{slice_get-get_or}
use Rattle.twin_ledger.proofs.Mirrors.{ready}
use Rattle.turn_bench.proofs.twins.twin_turns.Goals as goal

pub work_each-requires-after_bounds : goal.work_each-requires-after_bounds
work_each-requires-after_bounds g c κs within = λ k d lt.
    let passes = c.in-Ok.passes.items in
    ready (c.in-Ok.ensures.passes k (get_or passes k d) (slice_get-get_or passes k d (omega (arith, lt))))
