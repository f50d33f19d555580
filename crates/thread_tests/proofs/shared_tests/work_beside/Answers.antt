use Rattle.std.proofs.Common.{rules, ◌≡◌, [], ◌∷◌}
use Rattle.shared_heap.specs.Workers.{HasPass}
use Rattle.thread_tests.proofs.Three.{both_have}
use Rattle.thread_tests.proofs.shared_tests.work_beside.Goals as goal

pub work_together-requires-after_bounds : goal.work_together-requires-after_bounds
work_together-requires-after_bounds g c κs within =
    let both : c.as_mut_slice.result.now ≡ c.in_ok-station.field-0 ∷ c.in_ok-station-2.field-0 ∷ [] = search rules in
    both_have (λ station. HasPass station) c.as_mut_slice.result.now c.in_ok-station.field-0 c.in_ok-station-2.field-0 both c.in_ok-station.ensures.0 c.in_ok-station-2.ensures.0
