use Rattle.std.proofs.Common.{◌+◌, refl, sym, ap, ◌∙◌}
use Rattle.script_workers.proofs.CutLaws.{each_more}
use Rattle.script_workers.specs.Workers.{IsOfScript}
use Rattle.script_workers.proofs.cut.workers_of.Goals as goal

pub loop-place-preserved : goal.loop-place-preserved
loop-place-preserved c =
    let so_far = c.loop-place.invariant in
    let pushed = c.in_ok-push.ensures in
    let own = c.in_ok-events.ensures in record {
      count = pushed.len ∙ ap (λ n. n + 1) so_far.count;
      each = each_more (λ i worker. IsOfScript c.args.tries c.args.lines.now (i + 1) worker) c.loop-place.workers.items _ so_far.each c.loop-place.place (sym c.loop-place.workers.ok.0 ∙ so_far.count)
          (record { number_is = refl; tries_are = refl; events_are = own.events; own = own.own }) c.push.new.self.items pushed.items;
    }
