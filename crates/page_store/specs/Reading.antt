-- How far an opening has read.
use Rattle.std.specs.Prelude.{◌≡◌, ℕ, ◌<◌, List, length, None, slice_index_or}
use Rattle.page_store.specs.declared.frame.Stored.{Stored}
use Rattle.page_store.specs.Page.{page_lsn, page_frame, image_words}

-- what is kept in memory of a page without a frame that counts
abbrev pub nothing_stored : Stored
nothing_stored = record { lsn = 0; counts = None }

-- The first n pages were read: of each the LSN and the frame that counts, and their words.
pub record IsReadTo (log_bytes n : ℕ) (table : List Stored) (words image : List ℕ) : Type 0 where
  pub pages : length table ≡ n
  pub lsns : (p : ℕ) → p < n → (slice_index_or table p nothing_stored).lsn ≡ page_lsn log_bytes p image
  pub frames : (p : ℕ) → p < n → (slice_index_or table p nothing_stored).counts ≡ page_frame log_bytes p image
  pub words_are : words ≡ image_words log_bytes n image
