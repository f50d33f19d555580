use Rattle.std.proofs.Common.{rules, sym, ap, ◌∙◌}
use Rattle.turn_lock.proofs.lock.TurnLock.give.Goals as goal

pub pass_on-requires : goal.pass_on-requires
pass_on-requires g c = let back = c.put_back.ensures.slot in let now = ap (λ m. m.0) back ∙ ap (λ m. m.0) c.raise.ensures.raised.1 in let same = c.requires.same_value in
    record {
      pass = (search rules, ap (λ v. v.stage) now);
      value = (c.args.held.value, ap (λ m. m.1) back, record { entries_are = sym (ap (λ v. v.seen) now); empty_is = sym (ap (λ v. v.empty) now); stood_is = same.0; follows_is = same.1 });
    }
