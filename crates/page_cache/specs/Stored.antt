-- The pages that an image has after its log.
use Rattle.std.specs.Prelude.{ℕ, List, map}
use Rattle.std.specs.List.{range_with_len}
use Rattle.page_redo.specs.Pages.{Pages, pages_in}
use Rattle.page_store.specs.Page.{page_lsn, image_words}

-- the pages that are stored in the image of a heap with that many pages a space, after a log of that many bytes
abbrev pub stored_pages : ℕ → ℕ → List ℕ → Pages
stored_pages pages log_bytes image = record {
  words = image_words log_bytes (pages_in pages) image;
  lsns = map (λ p. page_lsn log_bytes p image) (range_with_len 0 (pages_in pages));
}
