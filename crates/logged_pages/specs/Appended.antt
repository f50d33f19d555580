-- What an append of records leaves of a log.
use Rattle.std.specs.Prelude.{◌≡◌, ◌+◌, List, ◌++◌, length}
use Rattle.gated_log.specs.declared.log.Log.{Log}
use Rattle.gated_log.specs.LogState.{IsPlaced, KeepsMemory, Keeps, buffer_size, log_count}
use Rattle.log_records.specs.declared.Record.{Record}
use Rattle.log_records.specs.Record.{spellings}

-- These records are pending after those that were, their bytes are in the buffer, and no memory was given back.
pub record IsAppended (old new : Log) (records : List Record) : Type 0 where
  pub place : IsPlaced old new
  pub kept : (batches : List (List Record)) (pending : List Record) → Keeps old batches pending → Keeps new batches (pending ++ records)
  pub size : buffer_size new ≡ buffer_size old + length (spellings records)
  pub count : log_count new ≡ log_count old + length records
  pub memory : KeepsMemory old new
