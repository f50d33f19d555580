use Rattle.std.proofs.Common.{rules, ◌≡◌, ℕ, ◌+◌, ◌<◌, [], length, sym, refl, ap, ◌∙◌, arith, slice_get, slice_index}
use Rattle.turn_lock.specs.Passes.{IsNew, first_of}
use Rattle.turn_lock.specs.Steps.{left_to_deal, dealt}
use Rattle.turn_lock.proofs.Lists.{each_push}
use Rattle.turn_lock.proofs.Keeps.{splits, deals_next, deals_number, dealing}
use Rattle.turn_lock.proofs.Deals.{new_pass}
use Rattle.turn_lock.proofs.lock.TurnLock.deal.Goals as goal

pub split_seat-requires : goal.split_seat-requires
split_seat-requires g c = let view = c.loop-label.invariant.view in
    (c.loop-label.invariant.seat ∙ c.requires.seat.0, search rules, splits _ _ _ _ _ _ _ _ _ (ap (λ m. m.0.stage) view) (ap (λ m. m.0.mine) view) (ap (λ m. m.0.turns) view))

pub loop-label-preserved : goal.loop-label-preserved
loop-label-preserved g c =
    let inv = c.loop-label.invariant in let k : ℕ = c.loop-label.label-index in let near : k < length c.args.labels.now = omega arith in
    let t = g.T.Turns in let first = first_of c.args.self.now in
    let cut = c.split_seat.ensures in record {
      seat = cut.0 ∙ inv.seat;
      view = cut.2 ∙ (ap (λ m. (left_to_deal m.0, m.1)) inv.view ∙ ap (λ v. (v, [])) (deals_next t.entries t.stood t.front t.empty_turns t.follows first (length c.args.labels.now) k near));
      count = c.push_reserved.ensures.len ∙ ap (λ (n : ℕ). n + 1) inv.count;
      room = c.push_reserved.ensures.capacity ∙ inv.room;
      each = λ i pass at. each_push (λ n p. IsNew c.args.self.now n (slice_index c.args.labels.now n) (t.entries first) p) _ _ inv.each
          (rw (let e : length c.loop-label.passes.items ≡ k = sym c.loop-label.passes.ok.0 ∙ inv.count in e) (new_pass c.args.self.now _ k _ (t.entries first) (dealing t.entries t.stood t.front t.empty_turns t.follows first (length c.args.labels.now) k)
          (cut.3 ∙ (inv.seat ∙ c.requires.seat.0)) (cut.4 ∙ ap (λ m. (dealt m.0, [])) inv.view) refl refl (deals_number t.entries t.stood t.front t.empty_turns t.follows first (length c.args.labels.now) k near) refl refl refl refl refl (search rules)))
          i pass (ap (λ l. slice_get l i) (sym c.push_reserved.ensures.items) ∙ at);
    }
