use Rattle.std.proofs.Common.{drop}
use Rattle.log_machine.specs.Machine.{undo_in}
use Rattle.log_machine.proofs.Consistent.{consistent_with, inside_less}
use Rattle.log_machine.proofs.log_state.LogState.take_off.Goals as goal

pub invariant_of-self : goal.invariant_of-self
invariant_of-self c =
    consistent_with _ c.args.t (drop 1 (undo_in c.self.inside.undo c.args.t)) c.pop.new.self c.self.inside.commits c.max-self-inside.result c.requires
    (inside_less _ c.args.t c.self.invariant) c.self.invariant c.pop.ensures c.max-self-inside.ensures
