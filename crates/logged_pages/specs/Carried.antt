-- What is left when records were carried out.
use Rattle.std.specs.Prelude.{◌≡◌, ℕ, ◌+◌, ◌≤◌, List, ◌++◌, fold, length}
use Rattle.gated_log.specs.declared.log.Log.{Log}
use Rattle.gated_log.specs.LogState.{HasSpare, IsPlaced, Keeps, log_count, log_forced, log_room, log_used, log_used_with}
use Rattle.log_machine.specs.Machine.{put_record}
use Rattle.log_records.specs.declared.Record.{Record}
use Rattle.log_records.specs.Record.{spellings}
use Rattle.page_redo.specs.Redo.{redo_all}
use Rattle.logged_pages.specs.declared.logged.LoggedPages.{LoggedPages}
use Rattle.page_store.specs.StoreState.{store_plan}
use Rattle.logged_pages.specs.Advancing.{was_forced}
use Rattle.logged_pages.specs.OnDisk.{batches_if, pending_if}
use Rattle.logged_pages.specs.State.{frames_of, log_of, next_lsn_in, pages_in_memory, store_of}

-- The log has these further pending records, and is where it was.
pub record Adds (old new : Log) (records : List Record) : Type 0 where
  pub place : IsPlaced old new
  pub kept : (batches : List (List Record)) (pending : List Record) → Keeps old batches pending → Keeps new batches (pending ++ records)

-- These records were carried out: they are in the log, pending or forced with all that was pending, in the bytes and memory that were kept for them;
-- their effect is in the words, and the pages that they touch have their LSNs.
pub record HasCarried (old new : LoggedPages) (records : List Record) : Type 0 where
  pub kept : (batches : List (List Record)) (pending : List Record) → Keeps (log_of old) batches pending → Keeps (log_of new) (batches_if (was_forced old new) batches (pending ++ records)) (pending_if (was_forced old new) (pending ++ records))
  pub count : log_count (log_of new) ≡ log_count (log_of old) + length records
  pub forced : log_forced (log_of old) ≤ log_forced (log_of new)
  pub used : log_used (log_of new) ≤ log_used_with (log_of old) (length (spellings records))
  pub spare : (more : ℕ) → HasSpare (log_of old) (length (spellings records) + more) → HasSpare (log_of new) more
  pub words : (pages_in_memory new).words ≡ fold put_record (pages_in_memory old).words records
  pub lsns : (pages_in_memory new).lsns ≡ (redo_all (next_lsn_in (log_of old)) (pages_in_memory old) records).lsns
  pub size : length (pages_in_memory new).words ≡ length (pages_in_memory old).words
  pub room : log_room (log_of new) ≡ log_room (log_of old)
  pub plan : store_plan (store_of new) ≡ store_plan (store_of old)
  pub frames : frames_of new ≡ frames_of old

-- The same where no page was stored: they are pending.
pub record Carries (old new : LoggedPages) (records : List Record) : Type 0 where
  pub log : Adds (log_of old) (log_of new) records
  pub used : log_used (log_of new) ≡ log_used_with (log_of old) (length (spellings records))
  pub spare : (more : ℕ) → HasSpare (log_of old) (length (spellings records) + more) → HasSpare (log_of new) more
  pub words : (pages_in_memory new).words ≡ fold put_record (pages_in_memory old).words records
  pub lsns : (pages_in_memory new).lsns ≡ (redo_all (next_lsn_in (log_of old)) (pages_in_memory old) records).lsns
  pub size : length (pages_in_memory new).words ≡ length (pages_in_memory old).words
  pub store : store_of new ≡ store_of old
  pub frames : frames_of new ≡ frames_of old
