use Rattle.std.proofs.Common.{ap, ◌∙◌, rules}
use Rattle.log_machine.specs.Collecting.{pairs_of, translated_undo}
use Rattle.log_machine.proofs.TranslationLaws.{retained, seen_translated, kept_translated}
use Rattle.log_machine.proofs.undo_lists.UndoLists.translate.Goals as goal

pub invariant_of-self : goal.invariant_of-self
invariant_of-self c =
    let pairs = pairs_of c.args.index.now.copies.now in
    let left = retained _ pairs _ (λ k v b w f' t. search rules) c.self.inside.lists.entries c.retain.new.self.entries c.retain.ensures.filtered in
    kept_translated pairs c.self.inside.reserve c.self.inside.lists.entries c.retain.new.self.entries c.self.invariant c.retain.ensures.was_ordered c.retain.ensures.ordered left

pub returns : goal.returns
returns c =
    let pairs = pairs_of c.args.index.now.copies.now in
    let left = retained _ pairs _ (λ k v b w f' t. search rules) c.self.inside.lists.entries c.retain.new.self.entries c.retain.ensures.filtered in
    seen_translated pairs c.self.inside.lists.entries c.retain.new.self.entries c.retain.ensures.was_ordered left ∙ ap (translated_undo pairs) c.self.view_is
