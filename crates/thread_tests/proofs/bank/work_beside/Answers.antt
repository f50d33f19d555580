use Rattle.std.proofs.Common.{◌≡◌, ◌<◌, ℕ, [], ◌∷◌, length, get_or, sym, ap, ◌∙◌, subst, arith}
use Rattle.std.specs.List.{AllByRecursion}
use Rattle.std.proofs.lemmas.Option.{slice_get-get_or}
use Rattle.shared_heap.specs.Shared.{IsPass}
use Rattle.turn_lock.specs.Passes.{pass_numbers}
use Rattle.turn_lock.specs.Turning.{times, total}
use Rattle.thread_tests.proofs.Passes.{written_back, each_has, each_number}
use Rattle.thread_tests.proofs.bank.work_beside.Goals as goal

pub work_each-requires-after_bounds : goal.work_each-requires-after_bounds
work_each-requires-after_bounds g c κs within = λ k d lt.
    let passes = c.in_ok-shared.passes.items in
    let value = c.as_mut_slice.ensures.value in
    subst (λ l. IsPass c.in_ok-shared.shared (get_or l k d)) (sym value)
    (c.in_ok-shared.ensures.passes k (get_or passes k d) (slice_get-get_or passes k d (omega (arith, lt, ap length value)))).0

pub close-requires-clause-each : goal.close-requires-clause-each
close-requires-clause-each g c =
    let after = c.work_each.new.passes in
    let written = written_back after c.in_ok-shared.passes.items c.in_ok-shared.passes.len (sym (c.work_each.auto.passes ∙ c.as_mut_slice.ensures.len)) in
    subst (AllByRecursion (IsPass c.in_ok-shared.shared)) (sym written)
    (each_has (IsPass c.in_ok-shared.shared) after (λ i d lt. (c.work_each.ensures i d (omega (arith, lt, c.work_each.auto.passes))).0))

pub close-requires-clause-all : goal.close-requires-clause-all
close-requires-clause-all g c = λ number lt.
    let passes = c.in_ok-shared.passes.items in
    let after = c.work_each.new.passes in
    let value = c.as_mut_slice.ensures.value in
    let as_many : length after ≡ length passes = c.work_each.auto.passes ∙ ap length value in
    let written = written_back after passes c.in_ok-shared.passes.len (sym (c.work_each.auto.passes ∙ c.as_mut_slice.ensures.len)) in
    let first : (i : ℕ) (d : _) → i < length after → pass_numbers (get_or c.as_mut_slice.result.now i d) ≡ i ∷ [] = λ i d at.
    ap (λ l. pass_numbers (get_or l i d)) value ∙ (c.in_ok-shared.ensures.passes i (get_or passes i d) (slice_get-get_or passes i d (omega (arith, at, as_many)))).1 in
    subst (λ l. 0 < total (λ p. times number (pass_numbers p)) l) (sym written)
    (each_number pass_numbers after (λ i d at. (c.work_each.ensures i d (omega (arith, at, c.work_each.auto.passes))).1 ∙ first i d at) number
    (omega (arith, lt, as_many, c.in_ok-shared.ensures.heap.1, c.in_ok-shared.ensures.count, c.in_ok-shared.passes.ok.0)))
