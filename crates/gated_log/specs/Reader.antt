-- A log that is read record by record: what a reader has given of it, and what is left.
use Rattle.std.specs.Prelude.{◌≡◌, ℕ, ◌+◌, ◌-◌, ◌<◌, Bool, IsTrue, List, [], ◌∷◌, ◌++◌, length, drop, vec_len}
use Rattle.std.specs.List.{AllByRecursion}
use Rattle.std.specs.Int.{w32, to_le_bytes}
use Rattle.log_records.specs.declared.Record.{Record}
use Rattle.log_records.specs.Record.{spellings, IsRecord}
use Rattle.gated_log.specs.declared.reading.LogReader.{LogReader}
use Rattle.gated_log.specs.Log.{batches_bytes, records_of, HoldsBatches}
use Rattle.log_records.specs.declared.TheConstants.{BATCH_BYTES}

-- where the log begins on the disk
abbrev pub reader_place : LogReader → ℕ
reader_place r = r.at

-- its bytes
abbrev pub reader_room : LogReader → ℕ
reader_room r = r.room

-- how many records were given: the LSN of the last one
abbrev pub reader_lsn : LogReader → ℕ
reader_lsn r = r.given

-- the LSN of the first record of the batch that was begun last
abbrev pub reader_batch : LogReader → ℕ
reader_batch r = r.first

-- how many bytes are left of the records of that batch: none at its border
abbrev pub reader_left : LogReader → ℕ
reader_left r = r.left

-- how many bytes of the log were not taken
abbrev pub reader_rest : LogReader → ℕ
reader_rest r = r.room - r.next

-- the bytes in memory that were not taken
abbrev pub held : LogReader → List ℕ
held r = drop r.taken r.window.items

-- how many these are
abbrev pub held_size : LogReader → ℕ
held_size r = vec_len r.window - r.taken

-- the bytes of the log that were not taken: those in memory, and those that were not read
abbrev pub untaken : LogReader → List ℕ → List ℕ
untaken r log = held r ++ drop (r.next + held_size r) log

-- the bytes of a batch with that many bytes of records, as far as these records
abbrev pub begun_bytes : ℕ → List Record → List ℕ
begun_bytes size begun = 1 ∷ to_le_bytes w32 size ++ spellings begun

-- The reader stands after whole batches.
pub record IsAtGate (tells : Bool) (log : List ℕ) (r : LogReader) (batches : List (List Record)) (begun : List Record) : Type 0 where
  pub none : begun ≡ []
  pub next : r.next ≡ length (batches_bytes batches)
  pub bytes : IsTrue tells → log ≡ batches_bytes batches ++ untaken r log

-- It stands in the batch after them, of which it has given these records.
pub record IsInBatch (tells : Bool) (log : List ℕ) (r : LogReader) (batches : List (List Record)) (begun : List Record) : Type 0 where
  pub first : r.first ≡ length (records_of batches) + 1
  pub next : r.next ≡ length (batches_bytes batches) + (BATCH_BYTES + length (spellings begun))
  pub bytes : IsTrue tells → log ≡ batches_bytes batches ++ (begun_bytes (length (spellings begun) + r.left) begun ++ untaken r log)

-- A reader of the log with these bytes, if they are modelled, has given the records of these whole batches and of the next one these.
pub record HasRead (tells : Bool) (log : List ℕ) (r : LogReader) (batches : List (List Record)) (begun : List Record) : Type 0 where
  pub good : AllByRecursion IsRecord (records_of batches)
  pub good_begun : AllByRecursion IsRecord begun
  pub tail : r.tail ≡ length (batches_bytes batches)
  pub count : r.given ≡ length (records_of batches) + length begun
  pub at_gate : r.left ≡ 0 → IsAtGate tells log r batches begun
  pub in_batch : 0 < r.left → IsInBatch tells log r batches begun

-- It has given these records.
pub record HasGiven (tells : Bool) (log : List ℕ) (r : LogReader) (given : List Record) : Type 0 where
  pub batches : List (List Record)
  pub begun : List Record
  pub read : HasRead tells log r batches begun
  pub are : given ≡ records_of batches ++ begun

-- These are all: they stand in whole batches, and a closed gate follows them.
pub record HasGivenAll (tells : Bool) (log : List ℕ) (r : LogReader) (given : List Record) : Type 0 where
  pub batches : List (List Record)
  pub read : HasRead tells log r batches []
  pub border : r.left ≡ 0
  pub are : given ≡ records_of batches
  pub holds : IsTrue tells → HoldsBatches log batches

-- A record was given, after those that were begun of the batch after these batches; if none were, other batches may
-- have been passed that have no record.
pub record IsGiven (tells : Bool) (log : List ℕ) (r : LogReader) (batches : List (List Record)) (begun : List Record) (rec : Record) : Type 0 where
  pub passed : List (List Record)
  pub same : records_of passed ≡ records_of batches
  pub first : r.first ≡ length (records_of batches) + 1
  -- within its batch
  pub inside : 0 < r.left → HasRead tells log r passed (begun ++ rec ∷ [])
  -- or as the last of it
  pub border : r.left ≡ 0 → HasRead tells log r (passed ++ (begun ++ rec ∷ []) ∷ []) []

-- A batch was begun after these, which has ended if it has no record.
pub record IsBegun (tells : Bool) (log : List ℕ) (r : LogReader) (batches : List (List Record)) : Type 0 where
  pub inside : 0 < r.left → HasRead tells log r batches []
  pub empty : r.left ≡ 0 → HasRead tells log r (batches ++ [] ∷ []) []

-- The reader is of the same log, and has given the same.
pub record IsSameReader (old new : LogReader) : Type 0 where
  pub at : new.at ≡ old.at
  pub room : new.room ≡ old.room
  pub next : new.next ≡ old.next
  pub tail : new.tail ≡ old.tail
  pub left : new.left ≡ old.left
  pub first : new.first ≡ old.first
  pub given : new.given ≡ old.given
