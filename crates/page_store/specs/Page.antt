-- The pages of an image, each of which has two frames.
use Rattle.std.specs.Prelude.{◌≡◌, ◌≢◌, ◌⊎◌, ℕ, zero, suc, ◌+◌, ◌==◌, List, [], ◌∷◌, ◌++◌, replicate, slice_index, Option, if◌then◌else◌}
use Rattle.disk_model.specs.Disk.{part, SameOutside}
use Rattle.image_plan.specs.Plan.{frame_offset}
use Rattle.page_store.specs.declared.frame.Frame.{Frame}
use Rattle.page_store.specs.declared.frame.Frame.TheVariants.{First, Second}
use Rattle.page_store.specs.Frame.{counting, lsn_in, words_or}
use Rattle.heap_words.specs.declared.TheConstants.{PAGE_WORDS}
use Rattle.page_store.specs.declared.frame.TheConstants.{FRAME_BYTES}

-- the number of a frame in the plan of an image
abbrev pub frame_number : Frame → ℕ
frame_number First = 0
frame_number Second = 1

-- where a frame of page p begins, which is where its gate is
abbrev pub frame_place : ℕ → ℕ → Frame → ℕ
frame_place log_bytes p frame = frame_offset log_bytes p (frame_number frame)

-- the bytes of a frame of page p
abbrev pub frame_of : ℕ → ℕ → List ℕ → Frame → List ℕ
frame_of log_bytes p image frame = part image (frame_place log_bytes p frame) FRAME_BYTES

-- which frame of page p counts
abbrev pub page_frame : ℕ → ℕ → List ℕ → Option Frame
page_frame log_bytes p image = counting (frame_of log_bytes p image First) (frame_of log_bytes p image Second)

-- the LSN of page p
abbrev pub page_lsn : ℕ → ℕ → List ℕ → ℕ
page_lsn log_bytes p image = lsn_in (frame_of log_bytes p image First) (frame_of log_bytes p image Second)

-- what a page holds that was never stored: zeros, and 17 as the first word of page 0
abbrev pub first_words : ℕ → List ℕ
first_words zero = 17 ∷ replicate 63 0
first_words (suc p) = replicate PAGE_WORDS 0

-- the words of page p
abbrev pub stored_words : ℕ → ℕ → List ℕ → List ℕ
stored_words log_bytes p image = words_or (first_words p) (frame_of log_bytes p image First) (frame_of log_bytes p image Second)

-- the words of the first n pages, one page after another
unfoldable pub image_words : ℕ → ℕ → List ℕ → List ℕ
image_words log_bytes zero image = []
image_words log_bytes (suc n) image = image_words log_bytes n image ++ stored_words log_bytes n image

-- page p of an image has this LSN and these words
pub record HasPage (log_bytes p lsn : ℕ) (words image : List ℕ) : Type 0 where
  pub lsn_is : page_lsn log_bytes p image ≡ lsn
  pub words_are : stored_words log_bytes p image ≡ words

-- page p has the same LSN and words in both images
abbrev pub SamePage : ℕ → ℕ → List ℕ → List ℕ → Type 0
SamePage log_bytes p old new = HasPage log_bytes p (page_lsn log_bytes p old) (stored_words log_bytes p old) new

-- new has the size of old, and the same bytes but for the two frames of page p
abbrev pub SameButPage : ℕ → ℕ → List ℕ → List ℕ → Type 0
SameButPage log_bytes p old new = SameOutside (frame_offset log_bytes p 0) (frame_offset log_bytes (p + 1) 0) old new

-- While page p is stored a crash leaves new: the page is as in old, or has the new LSN and words, and all else is as in old.
pub record IsStoring (log_bytes p lsn : ℕ) (words old new : List ℕ) : Type 0 where
  pub page : SamePage log_bytes p old new ⊎ HasPage log_bytes p lsn words new
  pub others : (q : ℕ) → q ≢ p → SamePage log_bytes q old new
  pub outside : SameButPage log_bytes p old new

-- the writes and syncs of a store into a frame: four, and two more if its gate has to be closed first
abbrev pub store_calls : ℕ → ℕ → Frame → List ℕ → ℕ
store_calls log_bytes p frame image = if slice_index image (frame_place log_bytes p frame) == 1 then 6 else 4
