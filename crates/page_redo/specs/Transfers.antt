-- What is done with a disk beside a log and its pages.
use Rattle.std.specs.Prelude.{ℕ, ◌+◌, ◌==◌, nat_lt, min, if◌then◌else◌}

-- The records that wait get to the disk, or a page is stored, with the LSN that it has then.
pub data Transfer : Type 0 where
  Lands : Transfer
  Stores : ℕ → ℕ → Transfer

-- the writes and syncs of a store of a page: two more where both gates of its frames are open, since one is closed first
abbrev pub store_calls : ℕ → ℕ
store_calls gates = if nat_lt gates 2 then 4 else 6

-- how many gates of each page's frames are open once page p is stored
abbrev pub opened_at : ℕ → (ℕ → ℕ) → ℕ → ℕ
opened_at p gates q = if q == p then min 2 (gates q + 1) else gates q

-- what is said of each page, with this for page p
abbrev pub set_at : ℕ → ℕ → (ℕ → ℕ) → ℕ → ℕ
set_at p lsn lsns q = if q == p then lsn else lsns q
