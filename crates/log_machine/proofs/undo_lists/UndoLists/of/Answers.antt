use Rattle.std.proofs.Common.{ap, sym, ◌∙◌, reverse}
use Rattle.log_machine.specs.Machine.{undo_in}
use Rattle.log_machine.proofs.Lists.{stands_at, stands_not}
use Rattle.log_machine.proofs.undo_lists.UndoLists.of.Goals as goal

pub returns-in-Some : goal.returns-in-Some
returns-in-Some c =
    ap reverse c.deref.ensures.value
    ∙ sym (stands_at c.self.inside.lists.entries c.args.t c.in-Some.list.now c.in-Some.ensures.value)
    ∙ ap (λ undo. undo_in undo c.args.t) c.self.view_is

pub returns-in-None : goal.returns-in-None
returns-in-None c =
    sym (stands_not c.self.inside.lists.entries c.args.t c.in-None.ensures.value)
    ∙ ap (λ undo. undo_in undo c.args.t) c.self.view_is
