-- A page cache, as its callers see it.
use Rattle.std.specs.Prelude.{◌≡◌, ℕ, ◌<◌, ◌≤◌, ◌==◌, Bool, not, List, length}
use Rattle.log_records.specs.declared.Record.{Record}
use Rattle.page_redo.specs.Origin.{Origin}
use Rattle.page_redo.specs.Pages.{Pages, page_words, lsn_of}
use Rattle.page_redo.specs.Prefix.{EachHoldsPrefix}
use Rattle.page_store.specs.declared.store.PageStore.{PageStore}
use Rattle.page_store.specs.StoreState.{store_log, store_pages, store_size, stored_lsn, has_failed}
use Rattle.page_cache.specs.declared.cache.PageCache.{PageCache}
use Rattle.page_cache.specs.Stored.{stored_pages}

-- the pages in memory
abbrev pub cached : PageCache → Pages
cached cache = cache.pages

-- where they are stored
abbrev pub cache_store : PageCache → PageStore
cache_store cache = cache.store

-- how many pages may be dirty
abbrev pub cache_frames : PageCache → ℕ
cache_frames cache = cache.frames

-- how many there are, those of both spaces
abbrev pub cache_pages : PageCache → ℕ
cache_pages cache = store_pages cache.store

-- the bytes of the image
abbrev pub cache_size : PageCache → ℕ
cache_size cache = store_size cache.store

-- the bytes of the log in front of the pages
abbrev pub cache_log : PageCache → ℕ
cache_log cache = store_log cache.store

-- the present words of page p
abbrev pub cached_page : PageCache → ℕ → List ℕ
cached_page cache p = page_words cache.pages.words p

-- its LSN
abbrev pub cached_lsn : PageCache → ℕ → ℕ
cached_lsn cache p = lsn_of cache.pages p

-- Page p is the first whose LSN is past that one: beside a log that ends there it is ahead of the log.
pub record IsFirstPast (lsn p : ℕ) (at : Pages) : Type 0 where
  pub page : p < length at.lsns
  pub past : lsn < lsn_of at p
  pub before : (q : ℕ) → q < p → lsn_of at q ≤ lsn

-- the LSN with which it was stored, or 0
abbrev pub flushed_lsn : PageCache → ℕ → ℕ
flushed_lsn cache p = stored_lsn cache.store p

-- a page is dirty if its LSN isn't the one with which it was stored
abbrev pub is_dirty : PageCache → ℕ → Bool
is_dirty cache p = not (cached_lsn cache p == flushed_lsn cache p)

-- whether a flush has failed
abbrev pub cache_failed : PageCache → Bool
cache_failed cache = has_failed cache.store

-- A log with this origin is one of a cache's heap: it begins with as many pages.
abbrev pub IsOriginOf : Origin → PageCache → Type 0
IsOriginOf o cache = o.state.pages ≡ cache.store.plan.pages

-- the pages that are stored in an image may stand beside a log of these records: none of them is ahead of it
abbrev pub MayStandBeside : PageCache → Origin → List Record → List ℕ → Type 0
MayStandBeside cache o records image = EachHoldsPrefix o records (stored_pages cache.store.plan.pages cache.store.plan.log_bytes image)
