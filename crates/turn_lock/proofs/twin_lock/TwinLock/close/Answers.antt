use Rattle.std.proofs.Common.{sym, ap, ◌∙◌, arith, slice_index_or, slice_set, false}
use mathlib.Core.Option.{some-injective}
use lib.ListN.{get_elem?}
use Rattle.turn_lock.specs.TwinPasses.{first_of, first_device_of, passes_of}
use Rattle.turn_lock.proofs.TwinLaws.{ends, same_ending, saw_known}
use Rattle.turn_lock.proofs.TwinDeals.{both_taken}
use Rattle.turn_lock.proofs.twin_lock.TwinLock.close.Goals as goal

pub free-requires : goal.free-requires
free-requires g c = let one = c.take-value.ensures.others in let two = c.take-device.ensures.others in
    λ k h. ap (λ l. slice_index_or l k false) (two.1 ∙ ap (λ l. slice_set l 1 false) one.1) ∙ both_taken _ k (omega (arith, h, one.2, two.2, c.close_with-closed.ensures.counts.1, c.args.self.sized.1))

pub parted-value-requires-clause-value : goal.parted-value-requires-clause-value
parted-value-requires-clause-value g c = let t = g.T.Turns in let w = g.T.Twins in let pass = c.requires.pass in
    let e = ends t.entries t.stood t.front t.empty_turns t.follows w.beside w.later w.owed (first_of c.args.self) (first_device_of c.args.self) (passes_of c.args.self) _ _ _ _ pass.1.value pass.1.device c.requires.all pass.0.numbers_are c.requires.told c.close_with-closed.ensures.values.2 in
    (e.0, some-injective _ _ (sym c.take-value.ensures.value ∙ e.2))

pub parted-value-requires-clause-device : goal.parted-value-requires-clause-device
parted-value-requires-clause-device g c = let t = g.T.Turns in let w = g.T.Twins in let pass = c.requires.pass in
    let e = ends t.entries t.stood t.front t.empty_turns t.follows w.beside w.later w.owed (first_of c.args.self) (first_device_of c.args.self) (passes_of c.args.self) _ _ _ _ pass.1.value pass.1.device c.requires.all pass.0.numbers_are c.requires.told c.close_with-closed.ensures.values.2 in
    (e.1, some-injective _ _ (sym c.take-device.ensures.value ∙ (ap (λ l. get_elem? l 1) c.take-value.ensures.others.0 ∙ e.3)))

pub returns : goal.returns
returns g c = let t = g.T.Turns in let w = g.T.Twins in let pass = c.requires.pass in
    let e = ends t.entries t.stood t.front t.empty_turns t.follows w.beside w.later w.owed (first_of c.args.self) (first_device_of c.args.self) (passes_of c.args.self) _ _ _ _ pass.1.value pass.1.device c.requires.all pass.0.numbers_are c.requires.told c.close_with-closed.ensures.values.2 in
    let value = some-injective _ _ (sym e.2 ∙ c.take-value.ensures.value) ∙ c.parted-value.ensures.value in
    let device = some-injective _ _ (sym e.3 ∙ (ap (λ l. get_elem? l 1) (sym c.take-value.ensures.others.0) ∙ c.take-device.ensures.value)) ∙ c.parted-value.ensures.device in
    let end = same_ending t.entries t.stood t.front t.empty_turns t.follows w.beside w.later w.owed (first_of c.args.self) (first_device_of c.args.self) (passes_of c.args.self) _ _ _ _ _ value device e.4 in let turns = end.value_ends in record {
      same_value = (turns.stood_is, turns.follows_is);
      history = turns.seen_in;
      parts = turns.parts_in;
      stand = turns.mine_in;
      once = turns.once;
      turns = turns.turns_are;
      front = turns.front_in;
      beside = end.beside_is;
      later = saw_known w.later _ _ end.saw_is;
      since = end.since;
      devices = end.parts_in;
      told = end.told;
    }
