use Rattle.std.proofs.Common.{◌≡◌, All, length, get_or, IsOk, sym, ap, ◌∙◌, subst, arith}
use Rattle.shared_heap.specs.Workers.{HasPass, HasSent}
use Rattle.thread_play.specs.Stationed.{ArePlayed, passes_back}
use Rattle.thread_play.proofs.Lists.{written_back}
use Rattle.thread_play.proofs.Stations.{unplayed, stations_ready, all_played}
use Rattle.thread_play.proofs.play.work_by.Goals as goal

pub returns-in_err-stations : goal.returns-in_err-stations
returns-in_err-stations g c =
    let same = c.in_err-stations.ensures.err in
    subst (λ passes. ArePlayed c.args.shared.now c.from_residual.result c.args.workers.items passes.items) (sym same) (unplayed c.args.shared.now c.from_residual.result c.args.workers.items c.args.passes.now.items c.from_residual.ensures.0 c.requires.passes)

pub work_together-requires-after_bounds : goal.work_together-requires-after_bounds
work_together-requires-after_bounds g c κs within =
    subst (All HasPass) (sym c.as_mut_slice.ensures.value)
    (stations_ready c.args.shared.now c.args.workers.items c.args.passes.now.items c.in_ok-stations.stations.items c.requires.passes c.in_ok-stations.ensures.ok c.requires.workers)

pub returns : goal.returns
returns g c =
    let stations = c.in_ok-stations.stations.items in
    let after = c.work_together.new.stations in
    let back = c.give_back.ensures in
    let as_many : length after ≡ length stations = c.work_together.auto.stations ∙ ap length c.as_mut_slice.ensures.value in
    let written = written_back after stations c.in_ok-stations.stations.len (sym (c.work_together.auto.stations ∙ c.as_mut_slice.ensures.len)) in
    all_played c.args.shared.now c.args.workers.items c.args.passes.now.items stations c.requires.passes c.in_ok-stations.ensures.ok after c.give_back.new.passes.items c.give_back.result as_many
    (λ i d lt. subst (λ l. HasSent (get_or l i d) (get_or after i d)) c.as_mut_slice.ensures.value (c.work_together.ensures i d (omega (arith, lt, ap length c.as_mut_slice.ensures.value))))
    (back.passes ∙ ap passes_back written)
    ((λ ok. subst (All (λ s. IsOk s.end)) written (back.end.0 ok)), (λ all. back.end.1 (subst (All (λ s. IsOk s.end)) (sym written) all)))
