-- Where a log begins, and what its records say from there.
use Rattle.std.specs.Prelude.{ℕ, ◌+◌, ◌-◌, List, length, take, Option}
use Rattle.log_records.specs.declared.Record.{Record}
use Rattle.log_machine.specs.Machine.{State, start, after_all}
pub use Rattle.log_machine.specs.Replay.{first_lsn, commits_in}
use Rattle.page_redo.specs.Pages.{Pages, first_pages}

-- The origin of a log: the LSN of its first record, and the state and the pages in front of it. A page with an LSN of the log has the effects of the
-- log's records up to that already.
pub record Origin : Type 0 where
  pub lsn : ℕ
  pub state : State
  pub pages : Pages

-- The origin of each log, as long as none is truncated: a new heap with spaces of that many pages, whose first transaction has this number.
abbrev pub heap_origin : ℕ → ℕ → Origin
heap_origin pages first = record { lsn = first_lsn; state = start pages first; pages = first_pages pages }

-- the LSN of a record after these
abbrev pub next_lsn : Origin → List Record → ℕ
next_lsn o records = length records + o.lsn

-- the first records of a log, those with an LSN below this one
abbrev pub records_below : Origin → ℕ → List Record → List Record
records_below o lsn records = take (lsn - o.lsn) records

-- the state after these records, if each of them can follow
abbrev pub state_from : Origin → List Record → Option State
state_from o records = after_all o.state records
