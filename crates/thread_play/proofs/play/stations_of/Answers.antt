use Rattle.std.proofs.Common.{◌≡◌, ◌++◌, ◌∷◌, [], All, length, refl, sym, ap, ◌∙◌, subst, arith}
use Rattle.std.specs.Option.{option_to_list}
use Rattle.std.proofs.lemmas.List.Elements.{All-push}
use Rattle.thread_play.proofs.Lists.{taken_last}
use Rattle.thread_play.proofs.play.stations_of.Goals as goal

pub loop-worker-preserved : goal.loop-worker-preserved
loop-worker-preserved g c =
    let so_far = c.loop-worker.invariant in
    let left = c.pop-in-Some.new.self.items in
    let pass : c.loop-worker.passes.items ≡ left ++ c.unwrap-pass.result ∷ [] = c.pop-in-Some.ensures.items ∙ ap (λ o. left ++ option_to_list o) c.unwrap-pass.ensures in
    let pushed = c.push_reserved.ensures.items in
    record {
      heap = subst (All (λ station. station.calls.heap.now ≡ c.args.shared.now)) (sym pushed) (All-push (λ station. station.calls.heap.now ≡ c.args.shared.now) c.loop-worker.stations.items _ so_far.heap refl);
      workers = taken_last (λ station. station.worker) c.args.workers.items c.loop-worker.workers.items c.pop.new.self.items c.loop-worker.stations.items c.push_reserved.new.self.items _ so_far.workers c.in-Some.ensures.items pushed;
      passes = taken_last (λ station. station.calls.pass) c.args.passes.now.items c.loop-worker.passes.items left c.loop-worker.stations.items c.push_reserved.new.self.items _ so_far.passes pass pushed;
      pairs = omega (arith, so_far.pairs, c.in-Some.ensures.len, c.pop-in-Some.ensures.len, ap (λ o. length (option_to_list o)) c.unwrap-pass.ensures);
      room = omega (arith, so_far.room, c.in-Some.ensures.len, c.push_reserved.ensures.len, c.push_reserved.ensures.capacity);
      kept = c.pop-in-Some.ensures.capacity ∙ so_far.kept;
    }
