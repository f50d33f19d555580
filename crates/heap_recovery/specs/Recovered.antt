-- What an opening finds, and what it leaves.
use Rattle.std.specs.Prelude.{◌≡◌, ℕ, ◌<◌, [], length, Result, Ok, Err, Some, IsFalse}
use Rattle.std.specs.List.{AllByRecursion}
use Rattle.gate_slot.specs.Passing.{Passes}
use Rattle.gated_log.specs.declared.reading.LogError.{LogError}
use Rattle.gated_log.specs.declared.reading.LogError.TheVariants as logging
use Rattle.gated_log.specs.LogState.{Keeps, log_place, log_room}
use Rattle.image_plan.specs.declared.plan.Plan.{Plan}
use Rattle.image_plan.specs.declared.superblock.Super.{Super}
use Rattle.image_plan.specs.Plan.{log_offset}
use Rattle.image_plan.specs.Super.{IsSuper}
use Rattle.log_records.specs.Record.{IsRecord}
use Rattle.log_machine.specs.Machine.{words_in}
use Rattle.page_redo.specs.Pages.{pages_in, lsn_of}
use Rattle.page_redo.specs.Redo.{EachLacks, redone}
use Rattle.page_store.specs.declared.store.ReadPagesError.{ReadPagesError}
use Rattle.page_store.specs.declared.store.ReadPagesError.TheVariants as storing
use Rattle.page_store.specs.StoreState.{store_plan}
use Rattle.page_cache.specs.declared.cache.PageCache.{PageCache}
use Rattle.page_cache.specs.CacheState.{cached, cache_store, cache_failed, flushed_lsn}
use Rattle.heap_model.specs.Image.{StoredHeap, origin_of, records_in, state_in, next_lsn_of}
use Rattle.heap_model.specs.Opening.{rolled_back}
use Rattle.heap_recovery.specs.Causes.{error_device}
use Rattle.heap_recovery.specs.declared.at.At.TheVariants.{Batch}
use Rattle.heap_recovery.specs.declared.error.RecoverError.{RecoverError}
use Rattle.heap_recovery.specs.declared.error.RecoverError.TheVariants.{NoMemory, NotHeap, Damaged, Disk}
use Rattle.heap_recovery.specs.declared.reading.Reading.{Reading}
use Rattle.heap_recovery.specs.declared.recovery.Recovered.{Recovered}

-- the plan of a heap with these numbers
abbrev pub plan_of : Super → Plan
plan_of s = record { pages = s.pages; log_bytes = s.log_bytes }

-- In memory are the pages of this heap: the records of its log were redone on the stored ones, none of which is ahead of them.
pub record IsRedone (stored : StoredHeap) (cache : PageCache) : Type 0 where
  pub plan : store_plan (cache_store cache) ≡ plan_of stored.super
  pub unfailed : IsFalse (cache_failed cache)
  pub size : length stored.pages.words ≡ words_in stored.super.pages
  pub lsns_size : length stored.pages.lsns ≡ pages_in stored.super.pages
  pub behind : EachLacks (next_lsn_of stored) stored.pages
  pub pages : cached cache ≡ redone (origin_of stored) stored.pages (records_in stored)
  pub flushed : (p : ℕ) → p < pages_in stored.super.pages → flushed_lsn cache p ≡ lsn_of stored.pages p

-- This heap was read.
pub record IsRead (stored : StoredHeap) (read : Reading) : Type 0 where
  pub of : read.of ≡ stored.super
  pub limits : IsSuper stored.super
  pub good : AllByRecursion IsRecord (records_in stored)
  pub log : Keeps read.log stored.batches []
  pub place : log_place read.log ≡ log_offset
  pub room : log_room read.log ≡ stored.super.log_bytes
  pub cache : IsRedone stored read.cache
  pub state : state_in stored ≡ Some read.state

-- A heap was opened that was stored so: its log holds these batches now rolled back.
pub record IsRecovered (stored : StoredHeap) (found : Recovered) : Type 0 where
  pub log : Keeps found.log (rolled_back stored).batches []
  pub place : log_place found.log ≡ log_offset
  pub room : log_room found.log ≡ stored.super.log_bytes
  pub cached : cached found.cache ≡ redone (origin_of stored) stored.pages (records_in (rolled_back stored))
  pub plan : store_plan (cache_store found.cache) ≡ plan_of stored.super
  pub unfailed : IsFalse (cache_failed found.cache)
  pub flushed : (p : ℕ) → p < pages_in stored.super.pages → flushed_lsn found.cache p ≡ lsn_of stored.pages p
  pub state : state_in (rolled_back stored) ≡ Some found.state

-- An allocation failed or the disk did: nothing is reported of the image.
abbrev pub IsFromOutside : RecoverError → Type 0
IsFromOutside NoMemory = Unit {0}
IsFromOutside NotHeap = ⊥
IsFromOutside (Damaged at) = ⊥
IsFromOutside (Disk e) = Unit {0}

-- The calls of an opening that ends in an error: fewer than n where the disk stopped it, and none where an allocation failed.
abbrev pub ErrorPasses : ℕ → ℕ → ℕ → RecoverError → Type 0
ErrorPasses n before now NoMemory = now ≡ before
ErrorPasses n before now e = Passes n before now (error_device e)

-- The calls of an opening: n where it succeeds.
abbrev pub OpenPasses : {T : Type 0} → ℕ → ℕ → ℕ → Result T RecoverError → Type 0
OpenPasses n before now (Ok x) = Passes n before now (Ok tt)
OpenPasses n before now (Err e) = ErrorPasses n before now e

-- what a log's error is of an opening
abbrev pub log_error : LogError → RecoverError
log_error logging.NoMemory = NoMemory
log_error (logging.BadBatch at) = Damaged (Batch at)
log_error (logging.Disk e) = Disk e

-- what an error of the pages' opening is of an opening
abbrev pub pages_error : ReadPagesError → RecoverError
pages_error storing.NoMemory = NoMemory
pages_error (storing.Disk e) = Disk e
