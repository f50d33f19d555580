-- What the records of a log leave when replayed on pages as they were read.
use Rattle.std.specs.Prelude.{◌≡◌, ℕ, ◌<◌, List, [], length, None, Some, IsFalse}
use Rattle.std.specs.List.{AllByRecursion}
use Rattle.gated_log.specs.declared.log.Log.{Log}
use Rattle.gated_log.specs.LogState.{Keeps, log_place, log_room}
use Rattle.image_plan.specs.declared.superblock.Super.{Super}
use Rattle.image_plan.specs.Plan.{log_offset}
use Rattle.image_plan.specs.Super.{IsSuper}
use Rattle.log_records.specs.declared.Record.{Record}
use Rattle.log_records.specs.Record.{IsRecord}
use Rattle.log_machine.specs.Machine.{words_in}
use Rattle.page_redo.specs.Origin.{heap_origin, next_lsn, state_from}
use Rattle.log_machine.specs.Replay.{IsFirstUnshaped, Bounds}
use Rattle.page_redo.specs.Pages.{Pages, pages_in, lsn_of}
use Rattle.page_redo.specs.Redo.{redone}
use Rattle.page_store.specs.StoreState.{store_plan}
use Rattle.page_cache.specs.CacheState.{cached, cache_store, cache_failed, flushed_lsn}
use Rattle.heap_model.specs.Image.{StoredHeap, records_in}
use Rattle.heap_recovery.specs.declared.replaying.Replay.{Replay}
use Rattle.heap_recovery.specs.Recovered.{plan_of}

-- what an image holds of a heap with these numbers, whose pages are stored so and whose log holds these batches
abbrev pub heap_with : Super → Pages → List (List Record) → StoredHeap
heap_with s at batches = record { super = s; batches = batches; pages = at }

-- All these records of a heap with these numbers follow one another, and were redone on pages that were stored so.
pub record AllFollow (s : Super) (at : Pages) (records : List Record) (replay : Replay) : Type 0 where
  pub reached : state_from (heap_origin s.pages s.first) records ≡ Some replay.state
  pub pages : cached replay.cache ≡ redone (heap_origin s.pages s.first) at records

-- The record of this LSN is the first of them that can't follow.
pub record OneStuck (s : Super) (records : List Record) (lsn : ℕ) : Type 0 where
  pub reached : lsn < next_lsn (heap_origin s.pages s.first) records
  pub first : IsFirstUnshaped (heap_origin s.pages s.first).lsn (heap_origin s.pages s.first).state records lsn

-- These records of a heap with these numbers were replayed on pages that were stored so.
pub record HasReplayed (s : Super) (at : Pages) (records : List Record) (replay : Replay) : Type 0 where
  pub plan : store_plan (cache_store replay.cache) ≡ plan_of s
  pub unfailed : IsFalse (cache_failed replay.cache)
  pub size : length at.words ≡ words_in s.pages
  pub lsns_size : length at.lsns ≡ pages_in s.pages
  pub flushed : (p : ℕ) → p < pages_in s.pages → flushed_lsn replay.cache p ≡ lsn_of at p
  pub bounds : Bounds s.pages (length records) replay.state
  pub all : replay.unshaped ≡ None → AllFollow s at records replay
  pub stuck : (lsn : ℕ) → replay.unshaped ≡ Some lsn → OneStuck s records lsn

-- The log of this heap was read to its end, and its records replayed.
pub record HasReplayedLog (stored : StoredHeap) (log : Log) (replay : Replay) : Type 0 where
  pub limits : IsSuper stored.super
  pub good : AllByRecursion IsRecord (records_in stored)
  pub keeps : Keeps log stored.batches []
  pub place : log_place log ≡ log_offset
  pub room : log_room log ≡ stored.super.log_bytes
  pub replayed : HasReplayed stored.super stored.pages (records_in stored) replay
