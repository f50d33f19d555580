use Rattle.std.proofs.Common.{ap, sym, ◌∙◌, subst, rules}
use Rattle.log_machine.specs.Machine.{State, settled}
use Rattle.log_machine.specs.Sound.{IsConsistent}
use Rattle.log_machine.specs.Collecting.{with_roles_changed, pairs_of, can_translate_all, translated_undo}
use Rattle.log_machine.proofs.CopyRows.{copies_inside}
use Rattle.log_machine.proofs.FlipLaws.{flip_first, flip_not_copied, consistent_roles, consistent_state, flip_state}
use Rattle.log_machine.proofs.log_state.LogState.flip.Goals as goal

pub returns-in_err-to_space-clause-unshaped : goal.returns-in_err-to_space-clause-unshaped
returns-in_err-to_space-clause-unshaped c same = flip_first c.args.self.now c.args.copies.now (sym c.if-is_collecting.ensures) ∙ flip_not_copied c.args.self.now c.args.copies.now (c.in_err-to_space.ensures.unshaped (search rules))

pub of-requires : goal.of-requires
of-requires c =
    copies_inside (settled (with_roles_changed c.args.self.now)) c.in_ok-to_space.to_space c.args.copies.now
    (consistent_roles c.args.self.now (subst (λ (s : State). IsConsistent s) c.self.view_is c.self.invariant)) c.in_ok-to_space.ensures.ok

pub invariant_of-self : goal.invariant_of-self
invariant_of-self c = consistent_state _ c.args.self.now _ c.in_ok-to_space.to_space c.args.copies.now c.translate.new.self c.self.invariant c.to_space-2.invariant c.self.view_is c.to_space-2.view_is (sym (c.if-not-can_translate.ensures ∙ ap (λ ks. can_translate_all ks c.self.inside.undo) c.in_ok-index.ensures)) c.in_ok-to_space.ensures.ok (c.translate.ensures ∙ ap (λ ks. translated_undo (pairs_of ks) c.self.inside.undo) c.in_ok-index.ensures)

pub returns-clause-ok : goal.returns-clause-ok
returns-clause-ok c = flip_state _ c.args.self.now _ c.in_ok-to_space.to_space c.args.copies.now c.translate.new.self c.self.view_is c.to_space-2.view_is (sym c.if-is_collecting.ensures) (sym c.if-not-begins_at.ensures) (sym (c.if-not-can_translate.ensures ∙ ap (λ ks. can_translate_all ks c.self.inside.undo) c.in_ok-index.ensures)) c.in_ok-to_space.ensures.ok (c.translate.ensures ∙ ap (λ ks. translated_undo (pairs_of ks) c.self.inside.undo) c.in_ok-index.ensures)
