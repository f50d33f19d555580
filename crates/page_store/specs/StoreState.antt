-- A page store in memory, as its callers see it, and when it knows what an image holds.
use Rattle.std.specs.Prelude.{◌≡◌, ℕ, ◌*◌, ◌<◌, Bool, List, Option, slice_index_or}
use Rattle.image_plan.specs.declared.plan.Plan.{Plan}
use Rattle.image_plan.specs.Plan.{image_size}
use Rattle.page_store.specs.declared.frame.Frame.{Frame}
use Rattle.page_store.specs.declared.frame.Stored.{Stored}
use Rattle.page_store.specs.declared.store.PageStore.{PageStore}
use Rattle.page_store.specs.Page.{page_lsn, page_frame}
use Rattle.page_store.specs.Reading.{nothing_stored}

-- the plan of the image that it lies in
abbrev pub store_plan : PageStore → Plan
store_plan store = store.plan

-- the bytes of the log, which is followed by the frames
abbrev pub store_log : PageStore → ℕ
store_log store = store.plan.log_bytes

-- how many pages it has, those of both spaces
abbrev pub store_pages : PageStore → ℕ
store_pages store = 2 * store.plan.pages

-- the bytes of the image
abbrev pub store_size : PageStore → ℕ
store_size store = image_size store.plan.pages store.plan.log_bytes

-- what it has in memory of page p
abbrev pub stored_entry : PageStore → ℕ → Stored
stored_entry store p = slice_index_or store.table.items p nothing_stored

-- the LSN with which page p was stored, or 0
abbrev pub stored_lsn : PageStore → ℕ → ℕ
stored_lsn store p = (stored_entry store p).lsn

-- which frame of page p counts
abbrev pub stored_frame : PageStore → ℕ → Option Frame
stored_frame store p = (stored_entry store p).counts

-- whether a store of a page has failed
abbrev pub has_failed : PageStore → Bool
has_failed store = store.failed

-- It has in memory, of each page, the LSN and the frame that counts in this image.
pub record Knows (store : PageStore) (image : List ℕ) : Type 0 where
  pub lsns : (p : ℕ) → p < store_pages store → stored_lsn store p ≡ page_lsn (store_log store) p image
  pub frames : (p : ℕ) → p < store_pages store → stored_frame store p ≡ page_frame (store_log store) p image
