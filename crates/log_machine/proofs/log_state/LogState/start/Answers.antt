use Rattle.log_machine.proofs.Consistent.{consistent_start}
use Rattle.log_machine.proofs.log_state.LogState.start.Goals as goal

pub invariant_of-result : goal.invariant_of-result
invariant_of-result c = consistent_start c.args.pages c.args.first c.new.result c.requires.some c.requires.addresses c.new.ensures
