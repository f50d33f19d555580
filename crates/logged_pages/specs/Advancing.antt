-- What is left, in memory and on the disk, while records are put on their pages and pages are stored before that where too many would be dirty.
use Rattle.std.specs.Prelude.{◌≡◌, ℕ, ◌+◌, ◌-◌, ◌<◌, ◌≤◌, nat_lt, Bool, List, ◌∷◌, ◌++◌, [], Result, OnOk, IsOk, IsTrue, is_err, take}
use Rattle.disk_model.specs.Disk.{Only}
use Rattle.disk_model.specs.Keeps.{KeepsDisk}
use Rattle.disk_model.specs.Moments.{LeavesOnly}
use Rattle.disk_model.specs.declared.disk.Disk.{Ghosts}
use Rattle.disk_model.specs.declared.disk.DiskError.{DiskError}
use Rattle.gate_slot.specs.Passing.{Passes}
use Rattle.gated_log.specs.Log.{records_of}
use Rattle.gated_log.specs.LogState.{HasSpare, Keeps, log_count, log_forced, log_room, log_used}
use Rattle.log_records.specs.declared.Record.{Record}
use Rattle.page_cache.specs.CacheState.{cache_log, cache_pages, cached_lsn, flushed_lsn}
use Rattle.page_redo.specs.Carry.{Carry, carry, puts_of}
use Rattle.page_redo.specs.Origin.{Origin}
use Rattle.page_redo.specs.Pages.{Pages}
use Rattle.page_redo.specs.Prefix.{EachHoldsPrefix}
use Rattle.page_redo.specs.Redo.{redo_all}
use Rattle.page_store.specs.Gates.{open_gates}
use Rattle.page_store.specs.StoreState.{store_plan}
use Rattle.logged_pages.specs.declared.logged.LoggedPages.{LoggedPages}
use Rattle.logged_pages.specs.OnDisk.{batches_if, pending_if, IsLeft, IsOnDisk}
use Rattle.logged_pages.specs.State.{IsBehind, cache_of, frames_of, has_failed, log_of, next_lsn_in, pages_in_memory, store_of}

-- The pages and the log are where a carry has them, once so many more records are in the log.
pub record IsAtWith (more : ℕ) (k : Carry) (of : LoggedPages) : Type 0 where
  pub lsns : (p : ℕ) → p < cache_pages (cache_of of) → k.lsns p ≡ cached_lsn (cache_of of) p
  pub stored : (p : ℕ) → p < cache_pages (cache_of of) → k.stored p ≡ flushed_lsn (cache_of of) p
  pub forced : k.forced ≡ log_forced (log_of of)
  pub last : k.last ≡ more + log_count (log_of of)

-- they are there now
abbrev pub IsAt : Carry → LoggedPages → Type 0
IsAt k of = IsAtWith 0 k of

-- so many gates of each page's frames are open in an image
abbrev pub HasGates : LoggedPages → (ℕ → ℕ) → List ℕ → Type 0
HasGates of gates image = (p : ℕ) → p < cache_pages (cache_of of) → gates p ≡ open_gates (cache_log (cache_of of)) image p

-- whether what was pending was forced in between
abbrev pub was_forced : LoggedPages → LoggedPages → Bool
was_forced old new = nat_lt (log_forced (log_of old)) (log_forced (log_of new))

-- These pages are in memory. What was pending is so, or it was forced; the log has all of its memory; and all lies where it did.
pub record HasPut (old new : LoggedPages) (at : Pages) : Type 0 where
  pub pages : pages_in_memory new ≡ at
  pub kept : (batches : List (List Record)) (pending : List Record) → Keeps (log_of old) batches pending → Keeps (log_of new) (batches_if (was_forced old new) batches pending) (pending_if (was_forced old new) pending)
  pub count : log_count (log_of new) ≡ log_count (log_of old)
  pub forced : log_forced (log_of old) ≤ log_forced (log_of new)
  pub used : log_used (log_of new) ≤ log_used (log_of old)
  pub spare : (more : ℕ) → HasSpare (log_of old) more → HasSpare (log_of new) more
  pub room : log_room (log_of new) ≡ log_room (log_of old)
  pub plan : store_plan (store_of new) ≡ store_plan (store_of old)
  pub frames : frames_of new ≡ frames_of old

-- Nothing was forced or stored.
pub record IsStill {D : Type 0} (old new : LoggedPages) (before after : D) : Type 0 where
  pub disk : after ≡ before
  pub log : log_of new ≡ log_of old
  pub store : store_of new ≡ store_of old

-- What is on a modelled disk then, and what a crash has left at each moment: the batches that were there or the pending records as one more, and pages
-- that are not ahead of these. So many of the pending records were not in the log before.
pub record AdvancesOnDisk {D : Type 0} (g : Ghosts D) (added : ℕ) (old new : LoggedPages) (before after : D) (result : Result (Unit {0}) DiskError) (go : Carry → Carry) (o : Origin) (batches : List (List Record)) (pending : List Record) : Type 0 where
  pub on_disk : OnOk result (IsOnDisk o (batches_if (was_forced old new) batches pending) new (g.bytes after))
  pub left : OnOk result (IsLeft o batches pending old (g.bytes before) (g.bytes after))
  pub durable : Only (g.bytes before) (g.may_leave before) → OnOk result (Only (g.bytes after) (g.may_leave after))
  pub moments : Only (g.bytes before) (g.may_leave before) → LeavesOnly g.moment g.left_since before after (IsLeft o batches pending old (g.bytes before))
  pub gates : (k : Carry) → IsAtWith added k old → HasGates old k.gates (g.bytes before) → OnOk result (HasGates new (go k).gates (g.bytes after))
  pub passes : (k : Carry) → IsAtWith added k old → HasGates old k.gates (g.bytes before) → Passes ((go k).calls - k.calls) (g.passed before) (g.passed after) result

-- The pages get ahead in memory to these, and what has to be forced and stored for that is what a carry says. `May` is what is asked of a log's records and
-- its origin so that each page holds the effects of the records up to its LSN on the way.
pub record Advances {D : Type 0} (g : Ghosts D) (old new : LoggedPages) (before after : D) (result : Result (Unit {0}) DiskError) (at : Pages) (go : Carry → Carry) (May : Origin → List Record → Type 0) : Type 0 where
  pub disk : KeepsDisk g before after result
  pub failed : has_failed new ≡ is_err result
  pub put : OnOk result (HasPut old new at)
  pub carry : (k : Carry) → IsAt k old → OnOk result (IsAt (go k) new)
  pub still : (k : Carry) → IsAt k old → (go k).calls ≡ k.calls → IsOk result × IsStill old new before after
  pub on_disk : IsTrue g.tells → (o : Origin) (batches : List (List Record)) (pending : List Record) → IsBehind o batches pending old → May o (records_of batches ++ pending) → IsOnDisk o batches old (g.bytes before)
      → AdvancesOnDisk g 0 old new before after result go o batches pending

-- nothing is asked
abbrev pub NothingMore : Origin → List Record → Type 0
NothingMore o all = Unit {0}

-- each page holds the effects of a log's records up to its LSN, however many of these records were redone
abbrev pub HoldOnTheWay : ℕ → Pages → List Record → Origin → List Record → Type 0
HoldOnTheWay first at records o all = (i : ℕ) → EachHoldsPrefix o all (redo_all first at (take i records))

-- the carry when these records are put on their pages, the next ones of the log
abbrev pub carried_by : LoggedPages → Carry → List Record → Carry
carried_by of k records = carry (cache_pages (cache_of of)) (frames_of of) k (puts_of (cache_pages (cache_of of)) (next_lsn_in (log_of of)) records)

-- These records, of which the first has that LSN, are put on those of their pages that lack them: record by record, and page by page.
abbrev pub PutsAll : {D : Type 0} → Ghosts D → LoggedPages → LoggedPages → D → D → Result (Unit {0}) DiskError → ℕ → List Record → Type 0
PutsAll g old new before after result first records =
    Advances g old new before after result (redo_all first (pages_in_memory old) records)
    (λ k. carry (cache_pages (cache_of old)) (frames_of old) k (puts_of (cache_pages (cache_of old)) first records))
    (HoldOnTheWay first (pages_in_memory old) records)
