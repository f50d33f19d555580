-- What a record does to its pages, one page after another.
use Rattle.std.specs.Prelude.{◌≡◌, ℕ, ◌<◌, ◌≤◌, ◌==◌, Bool, true, false, List, Option, None, Some, slice_set}
use Rattle.std.specs.List.{filter, list_any}
use Rattle.log_records.specs.declared.Record.{Record}
use Rattle.log_machine.specs.Machine.{effect, put_all}
use Rattle.page_redo.specs.Pages.{Pages, page_of}

-- whether a page is one of these
abbrev pub is_among : List ℕ → ℕ → Bool
is_among pages p = list_any (λ q. q == p) pages

-- the first of these pages from one on, or none if there is none
abbrev pub IsNextOf : List ℕ → ℕ → Option ℕ → Type 0
IsNextOf pages from None = (q : ℕ) → from ≤ q → is_among pages q ≡ false
IsNextOf pages from (Some p) = (from ≤ p) × (is_among pages p ≡ true) × ((q : ℕ) → from ≤ q → q < p → is_among pages q ≡ false)

-- those of these writes that are on page p
abbrev pub on_page : ℕ → List (ℕ × ℕ) → List (ℕ × ℕ)
on_page p writes = filter (λ w. page_of w.0 == p) writes

-- the pages when what the record of an LSN writes on page p is put there, and that page has the record
abbrev pub put_page : ℕ → ℕ → Pages → Record → Pages
put_page lsn p at rec = record { words = put_all at.words (on_page p (effect at.words rec)); lsns = slice_set at.lsns p lsn }
