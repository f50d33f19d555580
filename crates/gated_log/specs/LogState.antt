-- A log in memory, as its callers see it, and what it stands for.
use Rattle.std.specs.Prelude.{◌≡◌, ℕ, ◌+◌, ◌<◌, ◌≤◌, Bool, List, ◌++◌, length, nat_lt, vec_len, vec_capacity}
use Rattle.log_records.specs.declared.Record.{Record}
use Rattle.log_records.specs.Record.{spellings}
use Rattle.gated_log.specs.declared.log.Log.{Log}
use Rattle.gated_log.specs.Log.{batches_bytes, records_of}
use Rattle.gated_log.specs.LogRoom.{used_bytes, need_bytes}

-- where it begins on the disk
abbrev pub log_place : Log → ℕ
log_place log = log.at

-- its bytes
abbrev pub log_room : Log → ℕ
log_room log = log.room

-- the offset in it of the closed gate after the forced batches
abbrev pub log_tail : Log → ℕ
log_tail log = log.tail

-- the buffer: four bytes of room for a batch's length, and the spelling of the pending records
abbrev pub log_buffer : Log → List ℕ
log_buffer log = log.buffer.items

-- how many bytes it has
abbrev pub buffer_size : Log → ℕ
buffer_size log = vec_len log.buffer

-- whether a record is pending
abbrev pub is_waiting : Log → Bool
is_waiting log = nat_lt 4 (buffer_size log)

-- no record is pending
abbrev pub IsBufferEmpty : Log → Type 0
IsBufferEmpty log = buffer_size log ≡ 4

-- the bytes of the buffer that there is memory for
abbrev pub log_memory : Log → ℕ
log_memory log = vec_capacity log.buffer

-- there is memory for that many more bytes in it, and the one that a force adds
abbrev pub HasSpare : Log → ℕ → Type 0
HasSpare log more = buffer_size log + more < log_memory log

-- What was reserved is still there: no memory was given back.
abbrev pub KeepsMemory : Log → Log → Type 0
KeepsMemory old new = log_memory old ≤ log_memory new

-- how many records were forced
abbrev pub log_forced : Log → ℕ
log_forced log = log.forced

-- how many records there are, forced or pending
abbrev pub log_count : Log → ℕ
log_count log = log.forced + log.waiting

-- the bytes that are used: the forced batches, a gate, and a batch of the pending records
abbrev pub log_used : Log → ℕ
log_used log = used_bytes (log_tail log) (buffer_size log)

-- the bytes that are used if that many more are pending
abbrev pub log_used_with : Log → ℕ → ℕ
log_used_with log more = used_bytes (log_tail log) (buffer_size log + more)

-- what a record of that many bytes takes, with a batch's gate and length if it is the first pending one
abbrev pub log_need : Log → ℕ → ℕ
log_need log own = need_bytes (buffer_size log) own

-- The log knows where these batches end, and these records are pending in it, after room for their length. It has counted them.
pub record Keeps (log : Log) (batches : List (List Record)) (pending : List Record) : Type 0 where
  pub tail : log_tail log ≡ length (batches_bytes batches)
  pub head : List ℕ
  pub four : length head ≡ 4
  pub items : log_buffer log ≡ head ++ spellings pending
  pub forced : log_forced log ≡ length (records_of batches)
  pub count : log_count log ≡ length (records_of batches) + length pending

-- the log lies where it did, and its forced batches end where they did
pub record IsPlaced (old new : Log) : Type 0 where
  pub at : log_place new ≡ log_place old
  pub room : log_room new ≡ log_room old
  pub tail : log_tail new ≡ log_tail old
  pub forced : log_forced new ≡ log_forced old

-- the log has the same place, batches and pending records
pub record IsSameLog (old new : Log) : Type 0 where
  pub place : IsPlaced old new
  pub buffer : log_buffer new ≡ log_buffer old
  pub size : buffer_size new ≡ buffer_size old
  pub count : log_count new ≡ log_count old
