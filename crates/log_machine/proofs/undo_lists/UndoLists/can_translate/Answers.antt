use Rattle.std.proofs.Common.{true, false, map, ap, sym, ◌∙◌, arith}
use Rattle.std.specs.List.{list_all}
use Rattle.std.proofs.lemmas.Grind.{common_steps}
use Rattle.log_machine.specs.Collecting.{can_translate, can_translate_all}
use Rattle.log_machine.specs.Seen.{seen_loser}
use Rattle.log_machine.proofs.TranslationLaws.{pass_more, pass_all}
use Rattle.log_machine.proofs.undo_lists.UndoLists.can_translate.Goals as goal

pub returns-then-not-can_translate_each : goal.returns-then-not-can_translate_each
returns-then-not-can_translate_each c =
    let copies = c.args.index.now.copies.now in
    let here = c.if-not-can_translate_each.ensures ∙ ap (list_all (can_translate copies)) c.deref.ensures.value in
    let more = pass_more copies c.in-Some.field-0-0.now c.in-Some.list.now false c.loop-list.list-iterator c.next.new.self c.in-Some.ensures.steps here in
    let all = pass_all copies c.self.inside.lists.entries c.iter-list-items.ensures.ordered in
    let same = ap (can_translate_all copies) c.self.view_is in
    grind (arith, common_steps, more, all, same, c.loop-list.invariant)

pub loop-list-preserved : goal.loop-list-preserved
loop-list-preserved c =
    let copies = c.args.index.now.copies.now in
    let here = c.if-not-can_translate_each.ensures ∙ ap (list_all (can_translate copies)) c.deref.ensures.value in
    sym (pass_more copies c.in-Some.field-0-0.now c.in-Some.list.now true c.loop-list.list-iterator c.next.new.self c.in-Some.ensures.steps here) ∙ c.loop-list.invariant

pub returns : goal.returns
returns c =
    let copies = c.args.index.now.copies.now in
    let none = ap (λ l. list_all (λ e. list_all (can_translate copies) e.1) (map seen_loser l)) c.in-None.ensures.steps.0 in
    let all = pass_all copies c.self.inside.lists.entries c.iter-list-items.ensures.ordered in
    let same = ap (can_translate_all copies) c.self.view_is in
    grind (arith, common_steps, none, all, same, c.loop-list.invariant)
