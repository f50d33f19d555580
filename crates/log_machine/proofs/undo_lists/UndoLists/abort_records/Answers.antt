use Rattle.std.proofs.Common.{ap, arith}
use Rattle.std.specs.FinMap as map
use Rattle.std.proofs.lemmas.Grind.{common_steps}
use Rattle.log_machine.specs.Machine.{abort_each}
use Rattle.log_machine.proofs.Seen.{entries_seen}
use Rattle.log_machine.proofs.undo_lists.UndoLists.abort_records.Goals as goal

pub returns : goal.returns
returns c =
    let all = ap abort_each (entries_seen c.self.inside.lists.entries c.iter-t-items.ensures.ordered) in
    let same = ap (λ undo. abort_each (map.entries undo)) c.self.view_is in
    grind (arith, common_steps, all, same)
