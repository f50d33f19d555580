use Rattle.std.proofs.Common.{subst}
use Rattle.std.specs.Prelude.{◌≡◌, IfOk}
use Rattle.log_machine.specs.Machine.{State, rollback}
use Rattle.log_machine.proofs.Consistent.{rollback_below, told_below}
use Rattle.log_machine.proofs.log_state.LogState.rollback.Goals as goal

pub returns-clause-inside : goal.returns-clause-inside
returns-clause-inside c =
    told_below c.args.self.now c.abort_records.result (rollback_below _ c.args.self.now c.self.invariant c.self.view_is)
    (subst (λ (s : State). IfOk c.abort_records.result (λ records. records.items ≡ rollback s)) c.self.view_is c.abort_records.ensures)
