-- Which pages are stored, and when, while records are put on their pages and only so many pages may be dirty. All of it goes by LSNs.
use Rattle.std.specs.Prelude.{ℕ, ◌+◌, nat_lt, List, [], ◌∷◌, ◌++◌, map, fold, filter, Option, None, Some, if◌then◌else◌}
use Rattle.std.specs.List.{range_with_len}
use Rattle.log_records.specs.declared.Record.{Record}
use Rattle.page_redo.specs.Pages.{touches}
use Rattle.page_redo.specs.Transfers.{Transfer, Lands, Stores, store_calls, opened_at, set_at}
use Rattle.page_redo.specs.Victim.{victim}

-- What is known of pages and of their log, and what was done with the disk so far.
pub record Carry : Type 0 where
  pub lsns : ℕ → ℕ  -- the LSN of each page
  pub stored : ℕ → ℕ  -- that with which it is stored
  pub gates : ℕ → ℕ  -- how many gates of its frames are open
  pub forced : ℕ  -- the last LSN that is on the disk
  pub last : ℕ  -- the last LSN of the log
  pub transfers : List Transfer
  pub calls : ℕ  -- the writes and syncs of these

-- all that waits gets to the disk, unless the record of that LSN is there
abbrev pub landed_to : ℕ → Carry → Carry
landed_to lsn k = if nat_lt k.forced lsn then record k { forced = k.last; transfers = k.transfers ++ Lands ∷ []; calls = k.calls + 4 } else k

-- a page is stored in one of its frames
abbrev pub kept_at : ℕ → Carry → Carry
kept_at p k = record k {
  stored = set_at p (k.lsns p) k.stored;
  gates = opened_at p k.gates;
  transfers = k.transfers ++ Stores p (k.lsns p) ∷ [];
  calls = k.calls + store_calls (k.gates p);
}

-- so it is, after a force where the page is ahead of the log on the disk
abbrev pub stored_in : ℕ → Carry → Carry
stored_in p k = kept_at p (landed_to (k.lsns p) k)

-- the victim is stored, if there is one
abbrev pub way_made : Option ℕ → Carry → Carry
way_made None k = k
way_made (Some v) k = stored_in v k

-- page p has the record of an LSN now
abbrev pub raised_at : ℕ → ℕ → Carry → Carry
raised_at p lsn k = record k { lsns = set_at p lsn k.lsns }

-- what was put on page p as the record of an LSN: the page lacked the record
abbrev pub page_written : ℕ → ℕ → ℕ → ℕ → Carry → Carry
page_written pages frames p lsn k = raised_at p lsn (way_made (victim pages frames k.lsns k.stored p) k)

-- the same, or nothing where the page has the record
abbrev pub written : ℕ → ℕ → Carry → ℕ × ℕ → Carry
written pages frames k put = if nat_lt (k.lsns put.0) put.1 then page_written pages frames put.0 put.1 k else k

-- the pages below one that a record touches, ascending, each with the record's LSN
abbrev pub puts_below : ℕ → ℕ → Record → List (ℕ × ℕ)
puts_below end lsn rec = map (λ p. (p, lsn)) (filter (touches rec) (range_with_len 0 end))

-- those that records touch, of so many pages, record by record. The first record has this LSN.
abbrev pub puts_of : ℕ → ℕ → List Record → List (ℕ × ℕ)
puts_of pages lsn [] = []
puts_of pages lsn (r ∷ rs) = puts_below pages lsn r ++ puts_of pages (lsn + 1) rs

-- the records are put on those pages that lack them, one page after another
abbrev pub carry : ℕ → ℕ → Carry → List (ℕ × ℕ) → Carry
carry pages frames k puts = fold (written pages frames) k puts
