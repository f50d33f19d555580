use Rattle.std.proofs.Common.{◌+◌, ◌≤◌, length, refl, sym, subst, arith}
use Rattle.log_machine.specs.Machine.{State, space_words, owed}
use Rattle.log_machine.proofs.Consistent.{consistent_on, short_now}
use Rattle.log_machine.proofs.log_state.LogState.promote.Goals as goal

pub overflow_cast-self : goal.overflow_cast-self
overflow_cast-self c = omega (arith, short_now _ c.args.self.now (length c.args.words.now) c.self.invariant c.self.view_is c.requires.room)

pub invariant_of-self : goal.invariant_of-self
invariant_of-self c =
    let room = subst (λ (x : State). x.used + length c.args.words.now + owed x ≤ space_words x.pages) (sym c.self.view_is) c.requires.room in
    consistent_on _ c.args.t (length c.args.words.now) _ c.max-self-inside.result c.self.invariant room refl c.max-self-inside.ensures
