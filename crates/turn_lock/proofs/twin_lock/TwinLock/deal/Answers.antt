use Rattle.std.proofs.Common.{rules, ◌≡◌, ℕ, ◌+◌, ◌<◌, [], length, sym, ap, ◌∙◌, arith, slice_get, slice_index}
use Rattle.turn_lock.specs.TwinPasses.{IsNew, first_of, first_device_of, passes_of}
use Rattle.turn_lock.specs.TwinSteps.{twin_left, twin_dealt}
use Rattle.turn_lock.proofs.Lists.{each_push}
use Rattle.turn_lock.proofs.TwinLaws.{deals}
use Rattle.turn_lock.proofs.TwinDeals.{twin_deals_next, twin_new_pass}
use Rattle.turn_lock.proofs.twin_lock.TwinLock.deal.Goals as goal

pub split_seat-requires : goal.split_seat-requires
split_seat-requires g c = let view = c.loop-label.invariant.view in let t = g.T.Turns in let w = g.T.Twins in (
  c.loop-label.invariant.seat ∙ c.requires.seat.0,
  search rules,
  deals t.entries t.stood t.front t.empty_turns t.follows w.beside w.later w.owed (first_of c.args.self.now) (first_device_of c.args.self.now) (passes_of c.args.self.now) _ _
      (ap (λ m. m.0.value.stage) view) (ap (λ m. m.0.value.mine) view) (ap (λ m. m.0.value.turns) view) (ap (λ m. m.0.device.stage) view) (ap (λ m. m.0.device.mine) view) (ap (λ m. m.0.device.turns) view) (ap (λ m. m.0.more.owes) view),
)

pub loop-label-preserved : goal.loop-label-preserved
loop-label-preserved g c =
    let inv = c.loop-label.invariant in let k : ℕ = c.loop-label.label-index in let near : k < length c.args.labels.now = omega arith in
    let t = g.T.Turns in let lock = c.args.self.now in
    let cut = c.split_seat.ensures in record {
      seat = cut.0 ∙ inv.seat;
      view = cut.2 ∙ (ap (λ m. (twin_left m.0, m.1)) inv.view ∙ ap (λ v. (v, [])) (twin_deals_next t.entries t.stood t.front t.empty_turns t.follows lock (length c.args.labels.now) k near));
      count = c.push_reserved.ensures.len ∙ ap (λ (n : ℕ). n + 1) inv.count;
      room = c.push_reserved.ensures.capacity ∙ inv.room;
      each = λ i pass at. each_push (λ n p. IsNew lock n (slice_index c.args.labels.now n) (t.entries (first_of lock)) p) _ _ inv.each
          (rw (let e : length c.loop-label.passes.items ≡ k = sym c.loop-label.passes.ok.0 ∙ inv.count in e) (twin_new_pass t.entries t.stood t.front t.empty_turns t.follows lock (length c.args.labels.now) _ k _ near
          (cut.3 ∙ (inv.seat ∙ c.requires.seat.0)) (cut.4 ∙ ap (λ m. (twin_dealt m.0, [])) inv.view) (search rules)))
          i pass (ap (λ l. slice_get l i) (sym c.push_reserved.ensures.items) ∙ at);
    }
