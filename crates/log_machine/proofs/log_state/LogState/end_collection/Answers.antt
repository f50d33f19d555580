use Rattle.log_machine.proofs.CopyRows.{consistent_collected}
use Rattle.log_machine.proofs.log_state.LogState.end_collection.Goals as goal

pub invariant_of-self : goal.invariant_of-self
invariant_of-self c = consistent_collected _ c.self.invariant
