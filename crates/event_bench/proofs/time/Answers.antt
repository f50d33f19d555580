use Rattle.std.proofs.Common.{length, get_or, sym, ap, subst, arith}
use Rattle.std.proofs.lemmas.Option.{slice_get-get_or}
use Rattle.shared_heap.specs.Shared.{IsPass}
use Rattle.event_bench.proofs.time.Goals as goal

pub time_each-requires-after_bounds : goal.time_each-requires-after_bounds
time_each-requires-after_bounds g c κs within = λ k d lt.
    let passes = c.in_ok-shared.passes.items in
    let value = c.as_mut_slice.ensures.value in
    subst (λ l. IsPass c.in_ok-shared.shared (get_or l k d)) (sym value)
    (c.in_ok-shared.ensures.passes k (get_or passes k d) (slice_get-get_or passes k d (omega (arith, lt, ap length value)))).0
