use Rattle.std.proofs.Common.{◌≡◌, ◌-◌}
use Rattle.page_cache.specs.CacheState.{cache_frames, cache_pages, cache_store, cached}
use Rattle.page_cache.proofs.ByPage.{IsPutBefore}
use Rattle.page_cache.proofs.cache.PageCache.redo.Given as goal

-- the record is put on the pages so far, and the others are as they were
abbrev pub invariant-loop-p : goal.invariant-loop-p
invariant-loop-p l = record {
  put : IsPutBefore l.lsn l.rec (cached l.fn.self) l.from (cached l.self);
  store : cache_store l.self ≡ cache_store l.fn.self;
  frames : cache_frames l.self ≡ cache_frames l.fn.self;
}

abbrev pub decreases-loop-p : goal.decreases-loop-p
decreases-loop-p l = cache_pages l.fn.self - l.from
