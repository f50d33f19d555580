-- Redo: records are put, in order, on those pages alone that lack them.
use Rattle.std.specs.Prelude.{ℕ, ◌+◌, ◌<◌, nat_lt, Bool, List, [], ◌∷◌, fold, filter, max, slice_index, slice_set, if◌then◌else◌}
use Rattle.log_records.specs.declared.Record.{Record}
use Rattle.log_machine.specs.Machine.{effect, put_all}
use Rattle.page_redo.specs.Origin.{Origin}
use Rattle.page_redo.specs.Pages.{Pages, page_of, lsn_of, touched, touches}

-- whether a page lacks the record of an LSN: its own is less
abbrev pub lacks : Pages → ℕ → ℕ → Bool
lacks at lsn p = nat_lt (lsn_of at p) lsn

-- each page lacks it
abbrev pub EachLacks : ℕ → Pages → Type 0
EachLacks lsn at = (p : ℕ) → lsn_of at p < lsn

-- the LSNs when those of these pages are raised to an LSN
abbrev pub raised_to : ℕ → List ℕ → List ℕ → List ℕ
raised_to lsn lsns touched = fold (λ now p. slice_set now p (max (slice_index now p) lsn)) lsns touched

-- the pages after the record of an LSN is redone: its words are put where the page lacks it, and each page that it touches has it
abbrev pub redo_record : ℕ → Pages → Record → Pages
redo_record lsn at rec = record {
  words = put_all at.words (filter (λ w. lacks at lsn (page_of w.0)) (effect at.words rec));
  lsns = raised_to lsn at.lsns (touched rec);
}

-- the pages after these records are redone in order, of which the first has this LSN
abbrev pub redo_all : ℕ → Pages → List Record → Pages
redo_all lsn at [] = at
redo_all lsn at (r ∷ rs) = redo_all (lsn + 1) (redo_record lsn at r) rs

-- the pages after a whole log is redone on those that were stored
abbrev pub redone : Origin → Pages → List Record → Pages
redone o stored records = redo_all o.lsn stored records

-- the words after these records: those of the pages in front of them, once they are redone there
abbrev pub words_from : Origin → List Record → List ℕ
words_from o records = (redone o o.pages records).words

-- the LSN of the last of these records that touches a page, or 0 if none does; the first of them has this LSN
abbrev pub last_lsn : ℕ → ℕ → List Record → ℕ
last_lsn p lsn [] = 0
last_lsn p lsn (r ∷ rs) = max (if touches r p then lsn else 0) (last_lsn p (lsn + 1) rs)
