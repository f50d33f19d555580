-- What an opening makes of the words and the LSNs of an image's pages.
use Rattle.std.proofs.Common.{◌≡◌, ℕ, ◌<◌, List, length, get_or, ap, ◌∙◌}
use Rattle.std.proofs.lemmas.List.FromFn.{fill_by_all}
use Rattle.page_redo.specs.Pages.{Pages, pages_in}
use Rattle.page_store.specs.Page.{page_lsn, image_words}
use Rattle.page_cache.specs.Stored.{stored_pages}

-- pages with these words and LSNs
abbrev pub made_of : List ℕ → List ℕ → Pages
made_of words lsns = record { words = words; lsns = lsns }

-- they are the pages that are stored in the image, if each of them is
pub opened : (pages log_bytes : ℕ) (image words lsns : List ℕ) → words ≡ image_words log_bytes (pages_in pages) image → length lsns ≡ pages_in pages
    → ((p : ℕ) → p < pages_in pages → get_or lsns p 0 ≡ page_lsn log_bytes p image) → made_of words lsns ≡ stored_pages pages log_bytes image
opened pages log_bytes image words lsns words_are size each =
    ap (λ (l : List ℕ). made_of l lsns) words_are ∙ ap (made_of (image_words log_bytes (pages_in pages) image)) (fill_by_all (λ p. page_lsn log_bytes p image) lsns (pages_in pages) 0 size each)
