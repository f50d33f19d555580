use Rattle.log_machine.proofs.Consistent.{consistent_end}
use Rattle.log_machine.proofs.log_state.LogState.raise_next.Goals as goal

pub invariant_of-self : goal.invariant_of-self
invariant_of-self c = consistent_end _ c.args.t c.max-self-inside.result c.self.invariant c.max-self-inside.ensures
