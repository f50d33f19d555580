use Rattle.std.proofs.Common.{ap, sym, ◌∙◌}
use Rattle.log_machine.specs.Machine.{State}
use Rattle.log_machine.proofs.CopyRows.{collected_told}
use Rattle.log_machine.proofs.log_state.LogState.is_collected.Goals as goal

pub returns-in-Some : goal.returns-in-Some
returns-in-Some c =
    collected_told c.args.self.now c.in-Some.collection c.is_empty.result (ap (λ (s : State). s.collection) (sym c.self.view_is) ∙ c.in-Some.is) c.is_empty.ensures
