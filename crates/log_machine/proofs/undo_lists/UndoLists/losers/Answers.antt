use Rattle.std.proofs.Common.{ap, sym, ◌∙◌, arith}
use Rattle.std.proofs.lemmas.Grind.{common_steps}
use Rattle.std.specs.FinMap as map
use Rattle.log_machine.proofs.Seen.{keys_seen}
use Rattle.log_machine.proofs.undo_lists.UndoLists.losers.Goals as goal

pub returns : goal.returns
returns c =
    let all = keys_seen c.self.inside.lists.entries c.keys-t-items.ensures.ordered ∙ sym c.keys-t-items.ensures.rest in
    let same = ap map.keys c.self.view_is in
    grind (arith, common_steps, all, same)
