use Rattle.std.proofs.Common.{refl}
use Rattle.page_cache.proofs.DirtyLaws.{lists_none}
use Rattle.page_cache.proofs.dirty.DirtyPages.none.Goals as goal

pub returns-clause-empty : goal.returns-clause-empty
returns-clause-empty c test none = lists_none test _ refl none
