-- What a disk holds of a log and its pages, and what a crash leaves while they are written.
use Rattle.std.specs.Prelude.{◌≡◌, ◌≢◌, ◌⊎◌, ℕ, ◌+◌, ◌<◌, ◌≤◌, nat_lt, Bool, true, false, List, [], min, if◌then◌else◌}
use Rattle.disk_model.specs.Disk.{part, SameOutside}
use Rattle.gated_log.specs.Log.{records_of, with_batch, HoldsBatches}
use Rattle.gated_log.specs.LogState.{log_forced, log_place, log_room}
use Rattle.image_plan.specs.Plan.{log_offset}
use Rattle.page_redo.specs.Origin.{Origin}
use Rattle.log_records.specs.declared.Record.{Record}
use Rattle.page_cache.specs.CacheState.{cache_log, cache_pages, cache_size, cached_lsn, cached_page, MayStandBeside}
use Rattle.page_store.specs.Gates.{open_gates}
use Rattle.page_store.specs.Page.{page_lsn, HasPage, SamePage}
use Rattle.page_store.specs.StoreState.{Knows}
use Rattle.logged_pages.specs.declared.logged.LoggedPages.{LoggedPages}
use Rattle.logged_pages.specs.State.{cache_of, log_of, store_of}

-- The log's part of an image holds these batches, and no stored page is ahead of them.
pub record Stands (o : Origin) (batches : List (List Record)) (of : LoggedPages) (image : List ℕ) : Type 0 where
  pub log : HoldsBatches (part image (log_place (log_of of)) (log_room (log_of of))) batches
  pub pages : MayStandBeside (cache_of of) o (records_of batches) image

-- So it stands in an image, and it is known which frame of each page counts there.
pub record IsOnDisk (o : Origin) (batches : List (List Record)) (of : LoggedPages) (image : List ℕ) : Type 0 where
  pub stands : Stands o batches of image
  pub frames : Knows (store_of of) image

-- an image that has each byte outside of the log and the pages as it was in another
abbrev pub SameBeside : LoggedPages → List ℕ → List ℕ → Type 0
SameBeside of old image = SameOutside log_offset (cache_size (cache_of of)) old image

-- What a crash leaves of an image at any moment: the batches as they were, or the pending records as one more; pages that are not ahead of these, and
-- none that is older than it was; and all that is outside as it was.
pub record IsLeft (o : Origin) (batches : List (List Record)) (pending : List Record) (of : LoggedPages) (old image : List ℕ) : Type 0 where
  pub stands : Stands o batches of image ⊎ Stands o (with_batch batches pending) of image
  pub later : (p : ℕ) → p < cache_pages (cache_of of) → page_lsn (cache_log (cache_of of)) p old ≤ page_lsn (cache_log (cache_of of)) p image
  pub outside : SameBeside of old image

-- a page has a record that is not on the disk
abbrev pub is_ahead : LoggedPages → ℕ → Bool
is_ahead of p = nat_lt (log_forced (log_of of)) (cached_lsn (cache_of of) p)

-- the batches on the disk, and the pending records, if these are forced or not
abbrev pub batches_if : Bool → List (List Record) → List Record → List (List Record)
batches_if true batches pending = with_batch batches pending
batches_if false batches pending = batches

abbrev pub pending_if : Bool → List Record → List Record
pending_if true pending = []
pending_if false pending = pending

-- A page was stored as it is in memory, the others stay as they were stored, and so do the bytes outside of the log and the pages. One more of the
-- page's gates is open, up to two.
pub record HasStored (of : LoggedPages) (p : ℕ) (old image : List ℕ) : Type 0 where
  pub page : HasPage (cache_log (cache_of of)) p (cached_lsn (cache_of of) p) (cached_page (cache_of of) p) image
  pub others : (q : ℕ) → q ≢ p → SamePage (cache_log (cache_of of)) q old image
  pub gates : open_gates (cache_log (cache_of of)) image p ≡ min 2 (open_gates (cache_log (cache_of of)) old p + 1)
  pub other_gates : (q : ℕ) → q ≢ p → open_gates (cache_log (cache_of of)) image q ≡ open_gates (cache_log (cache_of of)) old q
  pub outside : SameBeside of old image

-- the writes and syncs of a force, and of the store of a page
abbrev pub force_calls : Bool → ℕ
force_calls waits = if waits then 4 else 0

abbrev pub store_calls : LoggedPages → ℕ → List ℕ → ℕ
store_calls of p image = if nat_lt (open_gates (cache_log (cache_of of)) image p) 2 then 4 else 6
