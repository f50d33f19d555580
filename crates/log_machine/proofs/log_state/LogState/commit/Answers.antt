use Rattle.std.proofs.Common.{[], ◌+◌}
use Rattle.log_machine.proofs.Consistent.{consistent_with}
use Rattle.log_machine.proofs.log_state.LogState.commit.Goals as goal

pub invariant_of-self : goal.invariant_of-self
invariant_of-self c =
    consistent_with _ c.args.t [] c.remove.new.self (c.self.inside.commits + 1) c.max-self-inside.result c.requires.number tt c.self.invariant c.remove.ensures c.max-self-inside.ensures
