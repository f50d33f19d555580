-- Which pages may be stored beside a log: each holds the effects of the log's first records, of those up to its LSN.
use Rattle.std.specs.Prelude.{◌≡◌, ℕ, ◌+◌, ◌<◌, ◌≤◌, List, length}
use Rattle.log_records.specs.declared.Record.{Record}
use Rattle.log_machine.specs.Machine.{words_in}
use Rattle.page_redo.specs.Origin.{Origin, next_lsn, records_below}
use Rattle.page_redo.specs.Pages.{Pages, pages_in, page_words, lsn_of}
use Rattle.page_redo.specs.Redo.{words_from}

-- the words of an origin are those of both spaces
abbrev pub HasAllWords : Origin → Type 0
HasAllWords o = length o.pages.words ≡ words_in o.state.pages

-- The words of page p hold the effects of a log's records up to an LSN, and of no others. That is not below the LSN with which the log begins there.
pub record HoldsPrefix (o : Origin) (records : List Record) (p lsn : ℕ) (page : List ℕ) : Type 0 where
  pub from : lsn_of o.pages p ≤ lsn
  pub reached : lsn < next_lsn o records
  pub same : page ≡ page_words (words_from o (records_below o (lsn + 1) records)) p

-- Each page holds the effects of the records up to its LSN.
pub record EachHoldsPrefix (o : Origin) (records : List Record) (at : Pages) : Type 0 where
  pub size : length at.words ≡ words_in o.state.pages
  pub lsns_size : length at.lsns ≡ pages_in o.state.pages
  pub each : (p : ℕ) → p < pages_in o.state.pages → HoldsPrefix o records p (lsn_of at p) (page_words at.words p)

-- The pages hold the effects of all records, and no page has changed since the record of its LSN.
pub record IsPresent (o : Origin) (records : List Record) (at : Pages) : Type 0 where
  pub prefixes : EachHoldsPrefix o records at
  pub present : at.words ≡ words_from o records
