use Rattle.std.proofs.Common.{refl, arith}
use Rattle.page_cache.proofs.DirtyLaws.{lists_more}
use Rattle.page_cache.proofs.dirty.DirtyPages.add.Goals as goal

pub returns-clause-added : goal.returns-clause-added
returns-clause-added c before after is clean dirty others =
    let list = c.args.self.now in
    lists_more before after list _ c.args.p refl c.requires.page is others refl refl refl (omega (arith, list.whole, c.requires.room)) clean dirty
