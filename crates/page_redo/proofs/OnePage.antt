-- Pages with one page replaced.
use Rattle.std.specs.Prelude.{ℕ, ◌+◌, ◌*◌, List, ◌++◌, take, drop, slice_set}
use Rattle.page_redo.specs.Pages.{Pages}

-- the pages when these are the words of one of them, and this is its LSN
abbrev pub with_page : Pages → ℕ → ℕ → List ℕ → Pages
with_page at p lsn page = record { words = take (64 * p) at.words ++ page ++ drop (64 * p + 64) at.words; lsns = slice_set at.lsns p lsn }
