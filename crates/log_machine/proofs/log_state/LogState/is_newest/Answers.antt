use Rattle.std.proofs.Common.{is_some, ap, sym, ◌∙◌}
use Rattle.log_machine.specs.Machine.{State, undo_of, without_newest}
use Rattle.log_machine.proofs.Consistent.{newest_below}
use Rattle.log_machine.proofs.log_state.LogState.is_newest.Goals as goal

pub returns-clause-inside : goal.returns-clause-inside
returns-clause-inside c found =
    let here = ap (λ l. is_some (without_newest l c.args.write)) c.of.ensures in
    let seen = ap (λ (s : State). is_some (without_newest (undo_of s c.args.t) c.args.write)) c.self.view_is in
    newest_below _ c.args.self.now c.args.t c.args.write c.self.invariant c.self.view_is (sym (c.ends_with.ensures ∙ here ∙ seen) ∙ found)
