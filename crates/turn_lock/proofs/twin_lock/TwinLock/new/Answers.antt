use Rattle.std.proofs.Common.{rules, length, ap, ◌∙◌, refl, arith}
use Rattle.turn_lock.proofs.TwinLaws.{opens}
use Rattle.turn_lock.proofs.TwinDeals.{twin_new_of}
use Rattle.turn_lock.proofs.twin_lock.TwinLock.new.Goals as goal

pub new-requires : goal.new-requires
new-requires g c = let t = g.T.Turns in let w = g.T.Twins in let asked = c.requires in
    rw (c.of.ensures, c.of-2.ensures, c.both_slots.ensures) (opens t.entries t.stood t.front t.empty_turns t.follows w.beside w.later w.owed c.args.value (record { device = c.args.device; turns = 0 }) (length c.args.labels.now)
    asked.starts asked.stood asked.empty refl (omega arith) asked.beside asked.told w.later_itself)

pub out_of_slots-value-requires : goal.out_of_slots-value-requires
out_of_slots-value-requires g c = (c.args.value, record { device = c.args.device; turns = 0 }, search rules)

pub returns-in-Ok-new-clause-passes : goal.returns-in-Ok-new-clause-passes
returns-in-Ok-new-clause-passes g c = let t = g.T.Turns in let first = ap (λ k. k.first.value) c.in-Ok-new.ensures.ok.5 ∙ c.of.ensures in
    λ i pass at. twin_new_of t.entries t.stood t.front t.empty_turns t.follows _ 0 _ first _ _ _ (c.deal-passes.ensures.passes i pass at)
