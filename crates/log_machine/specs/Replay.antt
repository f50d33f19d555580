-- How the state follows records, one after another from the state in front of them on, and the first that can't follow.
use Rattle.std.proofs.Common.{◌≡◌, ℕ, ◌+◌, ◌-◌, ◌*◌, ◌≤◌, true, List, Option, None, Some, is_some, take}
use Rattle.log_records.specs.declared.Record.{Record}
use Rattle.log_records.specs.declared.TheConstants.{FIRST_LSN}
use Rattle.log_machine.specs.Machine.{State, after_all, reserve}
use Rattle.log_machine.specs.Sound.{AreLosers}

-- the LSN of a heap's first record
abbrev pub first_lsn : ℕ
first_lsn = FIRST_LSN

-- how many transactions are committed, where records follow one another
abbrev pub commits_in : Option State → ℕ
commits_in None = 0
commits_in (Some s) = s.commits

-- The record with an LSN is the first of these that can't follow those before it. Records begin behind a state, and with a first LSN.
pub record IsFirstUnshaped (first : ℕ) (s : State) (records : List Record) (lsn : ℕ) : Type 0 where
  pub before : is_some (after_all s (take (lsn - first) records)) ≡ true
  pub stuck : after_all s (take (lsn + 1 - first) records) ≡ None

-- What holds of the state after i records.
pub record Bounds (pages i : ℕ) (s : State) : Type 0 where
  pub sound : AreLosers s
  pub same_pages : s.pages ≡ pages
  pub few : s.commits ≤ i
  pub room : reserve s ≤ 29 * i
