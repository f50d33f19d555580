use Rattle.log_machine.proofs.Consistent.{fits_now}
use Rattle.log_machine.proofs.log_state.LogState.used.Goals as goal

pub returns-clause-fits : goal.returns-clause-fits
returns-clause-fits c = fits_now _ c.args.self.now c.self.invariant c.self.view_is
