use Rattle.std.proofs.Common.{ap, ◌∙◌}
use Rattle.std.specs.Prelude.{not}
use Rattle.page_cache.proofs.dirty.DirtyPages.remove_if.Goals as goal

pub returns-then-stored-clause-removed : goal.returns-then-stored-clause-removed
returns-then-stored-clause-removed c before after is dirty clean others = c.remove.ensures.removed before after is dirty (clean ∙ ap not c.if-stored.true) others
