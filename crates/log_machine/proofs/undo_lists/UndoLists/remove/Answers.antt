use Rattle.std.proofs.Common.{ap, ◌∙◌, arith}
use Rattle.std.specs.FinMap.{remove}
use Rattle.log_machine.proofs.Lists.{bytes_taken, kept_drop}
use Rattle.log_machine.proofs.Seen.{seen_remove}
use Rattle.log_machine.proofs.undo_lists.UndoLists.remove.Goals as goal

pub overflow_sub-self : goal.overflow_sub-self
overflow_sub-self c =
    let taken = bytes_taken c.self.inside.reserve c.self.inside.lists.entries c.args.t c.in-Some.list c.self.invariant c.in-Some.ensures.value in
    omega (arith, c.end_bytes.ensures, c.len.ensures)

pub invariant_of-self : goal.invariant_of-self
invariant_of-self c =
    let taken = bytes_taken c.self.inside.reserve c.self.inside.lists.entries c.args.t c.in-Some.list c.self.invariant c.in-Some.ensures.value in
    kept_drop c.self.inside.reserve _ c.self.inside.lists.entries c.remove.new.self.entries c.args.t c.self.invariant c.in-Some.ensures.updates.0 (omega (arith, c.end_bytes.ensures, c.len.ensures))

pub returns-in-Some : goal.returns-in-Some
returns-in-Some c =
    seen_remove c.self.inside.lists.entries c.remove.new.self.entries c.args.t c.remove.ensures.updates.0 ∙ ap (λ undo. remove undo c.args.t) c.self.view_is

pub returns-in_default : goal.returns-in_default
returns-in_default c =
    seen_remove c.self.inside.lists.entries c.remove.new.self.entries c.args.t c.remove.ensures.updates.0 ∙ ap (λ undo. remove undo c.args.t) c.self.view_is
