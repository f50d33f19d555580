use Rattle.std.proofs.Common.{◌∷◌}
use Rattle.log_machine.specs.Machine.{undo_in}
use Rattle.log_machine.proofs.Consistent.{consistent_with, inside_more}
use Rattle.log_machine.proofs.log_state.LogState.add.Goals as goal

pub invariant_of-self-2 : goal.invariant_of-self-2
invariant_of-self-2 c =
    consistent_with _ c.args.t (c.args.write ∷ undo_in c.self.inside.undo c.args.t) c.push.new.self c.self.inside.commits c.max-self-inside.result c.requires.number
    (inside_more _ c.args.self.now c.args.t c.args.write c.self.invariant c.self.view_is c.requires.inside) c.self.invariant c.in_ok-push.ensures.ok c.max-self-inside.ensures
