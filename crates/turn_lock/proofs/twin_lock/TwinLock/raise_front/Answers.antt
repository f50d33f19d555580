use Rattle.std.proofs.Common.{rules}
use Rattle.turn_lock.specs.TwinPasses.{first_of, first_device_of, passes_of}
use Rattle.turn_lock.proofs.TwinLaws.{raises}
use Rattle.turn_lock.proofs.twin_lock.TwinLock.raise_front.Goals as goal

pub fetch_max-requires : goal.fetch_max-requires
fetch_max-requires g c = let t = g.T.Turns in let w = g.T.Twins in
    let pass = c.requires.pass in let left = c.requires.left in let old = c.requires.beside in
    (pass.0.lock_is, search rules, rw (c.args.self.now.sized.1, left.0, left.1, left.2) (raises t.entries t.stood t.front t.empty_turns t.follows w.beside w.later w.owed (first_of c.args.self.now) (first_device_of c.args.self.now) (passes_of c.args.self.now) _ _ old.0 c.args._value.now c.args.front c.args._owes pass.1.value pass.0.first_is pass.0.number c.requires.one_turn old.1 c.requires.same_value old.2))
