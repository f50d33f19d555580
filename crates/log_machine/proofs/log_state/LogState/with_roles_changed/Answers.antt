use Rattle.std.proofs.Common.{ap, sym, ◌∙◌}
use Rattle.log_machine.specs.Machine.{State}
use Rattle.log_machine.specs.Collecting.{other_base}
use Rattle.log_machine.proofs.CopyRows.{consistent_flip}
use Rattle.log_machine.proofs.log_state.LogState.with_roles_changed.Goals as goal

pub invariant_of-result : goal.invariant_of-result
invariant_of-result c =
    consistent_flip _ c.new.result c.begin.result c.other_base.result c.self.invariant c.new.ensures c.begin.ensures (c.other_base.ensures ∙ ap (λ (s : State). other_base s) (sym c.self.view_is))
