-- A log and its pages, as their callers see them.
use Rattle.std.specs.Prelude.{◌≡◌, ℕ, ◌+◌, ◌≤◌, Bool, List, ◌++◌}
use Rattle.gated_log.specs.declared.log.Log.{Log}
use Rattle.gated_log.specs.Log.{records_of}
use Rattle.gated_log.specs.LogState.{Keeps, log_count}
use Rattle.page_redo.specs.Origin.{Origin, first_lsn}
use Rattle.log_records.specs.declared.Record.{Record}
use Rattle.page_cache.specs.CacheState.{cached, cache_frames, cache_size, cache_store}
use Rattle.page_cache.specs.declared.cache.PageCache.{PageCache}
use Rattle.page_redo.specs.Pages.{Pages}
use Rattle.page_redo.specs.Prefix.{EachHoldsPrefix, IsPresent}
use Rattle.page_store.specs.declared.store.PageStore.{PageStore}
use Rattle.logged_pages.specs.declared.logged.LoggedPages.{LoggedPages}

-- the log
abbrev pub log_of : LoggedPages → Log
log_of pages = pages.log

-- the cache with the pages
abbrev pub cache_of : LoggedPages → PageCache
cache_of pages = pages.cache

-- the pages in memory
abbrev pub pages_in_memory : LoggedPages → Pages
pages_in_memory pages = cached pages.cache

-- where they are stored
abbrev pub store_of : LoggedPages → PageStore
store_of pages = cache_store pages.cache

-- how many pages may be dirty
abbrev pub frames_of : LoggedPages → ℕ
frames_of pages = cache_frames pages.cache

-- whether a force or a store has failed
abbrev pub has_failed : LoggedPages → Bool
has_failed pages = pages.failed

-- the LSN of the record that is appended next to a log
abbrev pub next_lsn_in : Log → ℕ
next_lsn_in log = log_count log + first_lsn

-- the log and the pages behind it lie within a disk of that size
abbrev pub LiesWithin : LoggedPages → ℕ → Type 0
LiesWithin pages extent = cache_size pages.cache ≤ extent

-- The log has these batches and these pending records, and each page the effects of its records up to the page's LSN. So it is also in the middle of
-- a record, when some of its pages have it and others do not.
pub record IsBehind (o : Origin) (batches : List (List Record)) (pending : List Record) (pages : LoggedPages) : Type 0 where
  pub first : o.lsn ≡ first_lsn
  pub log : Keeps pages.log batches pending
  pub prefixes : EachHoldsPrefix o (records_of batches ++ pending) (cached pages.cache)

-- The same, and the pages have the effects of all records: so it is between one event and the next.
pub record IsUpToDate (o : Origin) (batches : List (List Record)) (pending : List Record) (pages : LoggedPages) : Type 0 where
  pub first : o.lsn ≡ first_lsn
  pub log : Keeps pages.log batches pending
  pub present : IsPresent o (records_of batches ++ pending) (cached pages.cache)
