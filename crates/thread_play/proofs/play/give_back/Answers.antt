use Rattle.std.proofs.Common.{◌++◌, ◌∷◌, [], sym, ap, ◌∙◌, arith, append_assoc}
use Rattle.thread_play.proofs.Lists.{reverse_map_first}
use Rattle.thread_play.proofs.Parts.{end_more}
use Rattle.thread_play.proofs.play.give_back.Goals as goal

pub loop-station-preserved : goal.loop-station-preserved
loop-station-preserved g c =
    let so_far = c.loop-station.invariant.given in
    let rest = so_far.0 in
    let own = c.and-end.ensures in
    let station = c.in-Some.station in
    record {
      given = (
        station ∷ rest,
        so_far.1 ∙ ap (λ l. l ++ rest) c.in-Some.ensures.items ∙ append_assoc c.pop.new.self.items (station ∷ []) rest,
        c.push_reserved.ensures.items ∙ ap (λ l. l ++ station.calls.pass ∷ []) so_far.2 ∙ sym (reverse_map_first (λ s. s.calls.pass) station rest),
        end_more (λ s. s.end) station rest c.loop-station.end c.and-end.result own so_far.3,
      );
      room = omega (arith, c.loop-station.invariant.room, c.in-Some.ensures.len, c.push_reserved.ensures.len, c.push_reserved.ensures.capacity);
    }
