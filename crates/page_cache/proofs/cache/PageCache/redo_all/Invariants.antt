use Rattle.std.proofs.Common.{◌≡◌, length, take}
use Rattle.page_redo.specs.Redo.{redo_all}
use Rattle.page_cache.specs.CacheState.{cache_frames, cache_store, cached}
use Rattle.page_cache.proofs.cache.PageCache.redo_all.Given as goal

-- the records so far are redone
abbrev pub invariant-loop-i : goal.invariant-loop-i
invariant-loop-i l = record {
  size : length (cached l.self).words ≡ length (cached l.fn.self).words;
  so_far : cached l.self ≡ redo_all l.first (cached l.fn.self) (take l.i l.records);
  store : cache_store l.self ≡ cache_store l.fn.self;
  frames : cache_frames l.self ≡ cache_frames l.fn.self;
}
