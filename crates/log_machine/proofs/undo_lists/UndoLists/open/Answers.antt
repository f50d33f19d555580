use Rattle.std.proofs.Common.{◌≡◌, [], ◌∷◌, ap, ◌∙◌, arith}
use Rattle.log_machine.specs.Machine.{undo_in}
use Rattle.log_machine.proofs.ReserveLaws.{bytes_for}
use Rattle.log_machine.proofs.Lists.{put_list, kept_put, added}
use Rattle.log_machine.proofs.Seen.{seen}
use Rattle.log_machine.proofs.undo_lists.UndoLists.open.Goals as goal

pub invariant_of-self-2 : goal.invariant_of-self-2
invariant_of-self-2 c =
    let one : seen c.push.new.self ≡ c.args.write ∷ [] = added c.new-list.result c.push.new.self c.args.write c.in_ok-push.ensures.items ∙ ap (λ l. c.args.write ∷ l) (cc) in
    let none : bytes_for (undo_in c.args.self.now c.args.t) ≡ 0 = ap bytes_for c.requires.none in
    let same = ap (λ undo. bytes_for (undo_in undo c.args.t)) c.self.view_is in
    kept_put _ _ c.self.inside.lists.entries c.insert.new.self.entries c.args.t c.push.new.self c.args.write [] c.self.invariant c.in_ok-insert.ensures.updates.0 one (omega arith)

pub returns-clause-ok : goal.returns-clause-ok
returns-clause-ok c =
    let one : seen c.push.new.self ≡ c.args.write ∷ [] = added c.new-list.result c.push.new.self c.args.write c.in_ok-push.ensures.items ∙ ap (λ l. c.args.write ∷ l) (cc) in
    put_list c.self.inside.lists.entries c.insert.new.self.entries c.args.self.now c.args.t c.push.new.self (c.args.write ∷ []) c.self.view_is c.in_ok-insert.ensures.updates.0 one
