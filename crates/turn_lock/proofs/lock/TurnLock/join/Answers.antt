use Rattle.std.proofs.Common.{rules, ap, ◌∙◌}
use Rattle.turn_lock.proofs.Keeps.{joins, no_append}
use Rattle.turn_lock.proofs.lock.TurnLock.join.Goals as goal

pub join_seat-requires : goal.join_seat-requires
join_seat-requires g c = let pass = c.requires.pass in let rest = c.requires.resting in
    (pass.0.lock_is, pass.1.lock_is, rest.1.slots, search rules, joins _ _ _ _ _ _ _ _ _ _ _ rest.0.stage rest.1.stage)

pub returns-clause-pass : goal.returns-clause-pass
returns-clause-pass g c = let pass = c.requires.pass.0 in let rest = c.requires.resting.0 in let done = c.join_seat.ensures in (
  record {
    lock_is = done.0 ∙ pass.lock_is;
    first_is = ap (λ m. m.0.first) done.2 ∙ pass.first_is;
    number = λ none. pass.number (no_append _ _ (ap (λ m. m.0.numbers) (Rattle.std.proofs.Common.sym done.2) ∙ none)).0;
  },
  record { stage = ap (λ m. m.0.stage) done.2 ∙ rest.stage; slots = ap (λ m. m.1) done.2 ∙ rest.slots },
)
