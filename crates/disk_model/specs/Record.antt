-- How the disk in memory keeps its contents and its record.
use Rattle.std.specs.Prelude.{◌≡◌, ℕ, ◌+◌, ◌*◌, ◌<◌, ◌≤◌, List, length, map, drop}
use Rattle.std.specs.List.{All}
use Rattle.std.specs.Vec.{vec_capacity}
use Rattle.disk_model.specs.Disk.{part}
use Rattle.disk_model.specs.Memory.{Change, Write, Sync, Restart, Memory, now_of}
use Rattle.disk_model.specs.declared.memory.Call.{Call}
use Rattle.disk_model.specs.declared.memory.Call.TheVariants.{Wrote, Synced, Restarted}
use Rattle.disk_model.specs.Range.{range_of, Fits, IsTied}
use Rattle.disk_model.specs.declared.memory.MemoryDisk.TheInside.{Inside}

-- what a call of the record changed, where the pool has the bytes that were written
abbrev pub change_of : List ℕ → Call → Change
change_of pool (Wrote at from len) = Write at (part pool from len)
change_of pool Synced = Sync
change_of pool Restarted = Restart

-- the pool has the bytes of the call
abbrev pub IsInPool : ℕ → Call → Type 0
IsInPool size (Wrote at from len) = from + len ≤ size
IsInPool size Synced = Unit {0}
IsInPool size Restarted = Unit {0}

-- the disk that the record describes
abbrev pub view_of : Inside → Memory
view_of a = record { first = a.first.value.items; changes = map (change_of a.pool.items) a.calls.items; pick = a.pick; room = a.room; whole = a.whole; fail_writes = a.fail_writes.items; fail_reads = a.fail_reads.items; passed = a.passed; reads = a.reads; faults = a.faults; restarts = a.restarts }

-- the ranges that are pending
abbrev pub pending_of : Inside → List (ℕ × ℕ)
pending_of a = map range_of (drop a.pending_from a.calls.items)

-- The fields agree with the record, and the room that was taken suffices for what is free, and once the record is forgotten for all of it.
pub record IsFaithful (a : Inside) : Type 0 where
  pub newest : a.newest.items ≡ (now_of (view_of a)).newest
  pub synced : a.synced.items ≡ (now_of (view_of a)).synced
  pub pending : pending_of a ≡ (now_of (view_of a)).pending
  pub from : a.pending_from ≤ length a.calls.items
  pub size : length a.synced.items ≡ length a.newest.items
  -- a sync left the same bytes where nothing was written since
  pub tied : IsTied (pending_of a) a.synced.items a.newest.items
  pub fit : All (Fits (length a.newest.items)) (pending_of a)
  pub in_pool : All (IsInPool (length a.pool.items)) a.calls.items
  pub pool_room : length a.pool.items + a.room ≤ vec_capacity a.pool
  pub calls_room : 32 * length a.calls.items + a.room ≤ 32 * vec_capacity a.calls + 31
  -- where something is pending, for the entry of the sync or restart that ends it too
  pub ending_room : a.pending_from < length a.calls.items → 32 * length a.calls.items + 32 + a.room ≤ 32 * vec_capacity a.calls + 31
  pub whole_pool : a.whole ≤ vec_capacity a.pool
  pub whole_calls : a.whole ≤ 32 * vec_capacity a.calls + 31
