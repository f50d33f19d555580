use Rattle.std.proofs.Common.{◌≡◌, [], ◌∷◌, ap, sym, ◌∙◌, subst, arith}
use Rattle.std.specs.FinMap.{insert}
use Rattle.log_machine.specs.Machine.{undo_in}
use Rattle.log_machine.specs.Kept.{IsReserve}
use Rattle.log_machine.specs.Seen.{seen_undo}
use Rattle.log_machine.proofs.Lists.{is_found, put_list, kept_put, added, got, stands_at, stands_not, bytes_standing, same_list, on_ok, on_err}
use Rattle.log_machine.proofs.Seen.{seen}
use Rattle.log_machine.proofs.undo_lists.UndoLists.push.Goals as goal

pub invariant_of-self : goal.invariant_of-self
invariant_of-self c =
    let old = c.in-Some.list.now in
    let changes = (c.get_mut.follows.holds c.push.new.self).3 (is_found _ old c.in-Some.ensures.value) in
    subst (λ undo. IsReserve c.self.inside.reserve undo) (sym (same_list c.self.inside.lists.entries _ c.args.t old c.push.new.self c.in-Some.ensures.value changes.0 c.in_err-push-in-Some.ensures.items)) c.self.invariant

pub returns-in_err-push-in-Some-clause-err : goal.returns-in_err-push-in-Some-clause-err
returns-in_err-push-in-Some-clause-err c =
    let old = c.in-Some.list.now in
    let changes = (c.get_mut.follows.holds c.push.new.self).3 (is_found _ old c.in-Some.ensures.value) in
    let same = same_list c.self.inside.lists.entries _ c.args.t old c.push.new.self c.in-Some.ensures.value changes.0 c.in_err-push-in-Some.ensures.items ∙ c.self.view_is in
    on_err c.from_residual.result same

pub invariant_of-self-in-Some : goal.invariant_of-self-in-Some
invariant_of-self-in-Some c =
    let old = c.in-Some.list.now in
    let changes = (c.get_mut.follows.holds c.push.new.self).3 (is_found _ old c.in-Some.ensures.value) in
    let more : seen c.push.new.self ≡ c.args.write ∷ seen old = added old c.push.new.self c.args.write c.in_ok-push-in-Some.ensures.items in
    let here = bytes_standing (seen_undo c.self.inside.lists.entries) c.args.t (seen old) c.self.invariant.some (got c.self.inside.lists.entries c.args.t old c.in-Some.ensures.value) in
    kept_put c.self.inside.reserve _ c.self.inside.lists.entries _ c.args.t c.push.new.self c.args.write (seen old) c.self.invariant changes.0 more (omega arith)

pub open-requires-clause-none : goal.open-requires-clause-none
open-requires-clause-none c =
    ap (λ m. undo_in (seen_undo m.entries) c.args.t) c.get_mut.follows.holds-at-none ∙ stands_not c.self.inside.lists.entries c.args.t c.in-None.ensures.value

pub returns-in_ok-push-in-Some-clause-ok : goal.returns-in_ok-push-in-Some-clause-ok
returns-in_ok-push-in-Some-clause-ok c =
    let old = c.in-Some.list.now in
    let changes = (c.get_mut.follows.holds c.push.new.self).3 (is_found _ old c.in-Some.ensures.value) in
    let more : seen c.push.new.self ≡ c.args.write ∷ seen old = added old c.push.new.self c.args.write c.in_ok-push-in-Some.ensures.items in
    let before = sym (stands_at c.self.inside.lists.entries c.args.t old c.in-Some.ensures.value) ∙ ap (λ undo. undo_in undo c.args.t) c.self.view_is in
    put_list c.self.inside.lists.entries _ c.args.self.now c.args.t c.push.new.self (c.args.write ∷ undo_in c.args.self.now c.args.t) c.self.view_is changes.0 (more ∙ ap (λ l. c.args.write ∷ l) before)

pub returns-in-None-clause-ok : goal.returns-in-None-clause-ok
returns-in-None-clause-ok c =
    let same = ap (λ m. seen_undo m.entries) c.get_mut.follows.holds-at-none ∙ c.self.view_is in
    let none : undo_in c.args.self.now c.args.t ≡ [] = ap (λ undo. undo_in undo c.args.t) (sym c.self.view_is) ∙ stands_not c.self.inside.lists.entries c.args.t c.in-None.ensures.value in
    on_ok c.open.result (λ is. is ∙ ap (λ undo. insert undo c.args.t (c.args.write ∷ [])) same ∙ ap (λ l. insert c.args.self.now c.args.t (c.args.write ∷ l)) (sym none)) c.open.ensures.ok
