use Rattle.std.proofs.Common.{arith}
use Rattle.page_cache.proofs.cache.PageCache.first_past.Goals as goal

pub returns-clause-page : goal.returns-clause-page
returns-clause-page c p is = omega (arith, (c.first_past.ensures.found p is).page, c.args.self.now.whole)
