use Rattle.std.proofs.Common.{◌≡◌, map}
use Rattle.std.specs.List.{list_all}
use Rattle.log_machine.specs.Collecting.{can_translate}
use Rattle.log_machine.specs.Seen.{seen_loser}
use Rattle.log_machine.proofs.undo_lists.UndoLists.can_translate.Given as goal

-- the lists so far can be translated, so all can if the others can
abbrev pub invariant-loop-list : goal.invariant-loop-list
invariant-loop-list l =
    list_all (λ e. list_all (can_translate l.index.copies.now) e.1) (map seen_loser l.list-iterator)
    ≡ list_all (λ e. list_all (can_translate l.index.copies.now) e.1) (map seen_loser l.initial.list-iterator)
