use Rattle.std.proofs.Common.{rules, ap, sym, ◌∙◌, ap₂, ◌++◌}
use Rattle.turn_lock.proofs.Keeps.{no_append}
use Rattle.turn_lock.specs.TwinPasses.{first_of, first_device_of, passes_of}
use Rattle.turn_lock.proofs.TwinLaws.{joins}
use Rattle.turn_lock.proofs.twin_lock.TwinLock.join.Goals as goal

pub join_seat-requires : goal.join_seat-requires
join_seat-requires g c = let t = g.T.Turns in let w = g.T.Twins in let pass = c.requires.pass in let at_rest = c.requires.at_rest in
    (pass.0.lock_is, pass.1.lock_is, at_rest.1.slots, search rules, joins t.entries t.stood t.front t.empty_turns t.follows w.beside w.later w.owed (first_of c.args.self.now) (first_device_of c.args.self.now) (passes_of c.args.self.now) _ _ _ _ at_rest.0.value at_rest.1.value at_rest.0.device at_rest.1.device)

pub returns-clause-pass : goal.returns-clause-pass
returns-clause-pass g c = let pass = c.requires.pass in let at_rest = c.requires.at_rest.0 in let done = c.join_seat.ensures in (
  record {
    lock_is = done.0 ∙ pass.0.lock_is;
    first_is = ap (λ m. m.0.value.first) done.2 ∙ pass.0.first_is;
    first_device_is = ap (λ m. m.0.device.first) done.2 ∙ pass.0.first_device_is;
    number = λ none. pass.0.number (no_append _ _ (ap (λ m. m.0.value.numbers) (sym done.2) ∙ none)).0;
    numbers_are = ap (λ m. m.0.device.numbers) done.2 ∙ (ap₂ (λ a b. a ++ b) pass.0.numbers_are pass.1.numbers_are ∙ ap (λ m. m.0.value.numbers) (sym done.2));
  },
  record { value = ap (λ m. m.0.value.stage) done.2 ∙ at_rest.value; device = ap (λ m. m.0.device.stage) done.2 ∙ at_rest.device; slots = ap (λ m. m.1) done.2 ∙ at_rest.slots },
)
