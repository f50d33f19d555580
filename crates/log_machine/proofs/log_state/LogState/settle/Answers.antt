use Rattle.log_machine.proofs.Consistent.{consistent_settled}
use Rattle.log_machine.proofs.log_state.LogState.settle.Goals as goal

pub invariant_of-self : goal.invariant_of-self
invariant_of-self c = consistent_settled _ c.new.result c.self.invariant c.new.ensures
