use Rattle.std.proofs.Common.{◌≡◌, ◌<◌, ℕ, true}
use Rattle.std.specs.Prelude.{slice_index}
use Rattle.page_redo.specs.Victim.{IsNoYounger}
use Rattle.page_cache.specs.CacheState.{cache_pages, cached_lsn, is_dirty}
use Rattle.page_cache.proofs.cache.PageCache.oldest.Given as goal

-- it is dirty, and none so far comes before it
abbrev pub invariant-loop-p : goal.invariant-loop-p
invariant-loop-p l = record {
  within : l.oldest < cache_pages l.self;
  dirty : is_dirty l.self l.oldest ≡ true;
  least : (i : ℕ) → i < l.p-index → IsNoYounger (cached_lsn l.self) l.oldest (slice_index l.listed i);
}
