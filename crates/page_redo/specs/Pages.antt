-- Pages of words, each with an LSN, and which of them a record touches.
use Rattle.std.specs.Prelude.{ℕ, ◌*◌, ◌==◌, Bool, List, take, drop, replicate, slice_index}
use Rattle.std.specs.List.{flat_map, list_any}
use Rattle.log_records.specs.declared.Record.{Record}
use Rattle.log_machine.specs.Machine.{first_contents}
use Rattle.heap_words.specs.declared.TheConstants.{PAGE_WORDS}
pub use Rattle.heap_spaces.specs.Collection.{page_of}
use Rattle.page_redo.specs.Ranges.{range_pages, ranges}

-- The pages of both spaces, each with its LSN: all words by address, and the LSNs by page.
pub record Pages : Type 0 where
  pub words : List ℕ
  pub lsns : List ℕ

-- how many pages both spaces have
abbrev pub pages_in : ℕ → ℕ
pages_in pages = 2 * pages

-- the words of a page
abbrev pub page_words : List ℕ → ℕ → List ℕ
page_words words p = take PAGE_WORDS (drop (PAGE_WORDS * p) words)

-- the LSN of a page
abbrev pub lsn_of : Pages → ℕ → ℕ
lsn_of at p = slice_index at.lsns p

-- pages that were never stored: the first contents, and no record's effect, as the LSN 0 says
abbrev pub first_pages : ℕ → Pages
first_pages pages = record { words = first_contents pages; lsns = replicate (pages_in pages) 0 }

-- the pages that a record touches: those in which the words lie that it writes
abbrev pub touched : Record → List ℕ
touched rec = flat_map range_pages (ranges rec)

-- whether it touches a page
abbrev pub touches : Record → ℕ → Bool
touches rec p = list_any (λ q. q == p) (touched rec)
