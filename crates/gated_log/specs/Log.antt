-- A log's bytes: batches of records, each behind an open gate, up to the first closed gate.
use Rattle.std.specs.Prelude.{◌≡◌, ◌≢◌, ℕ, ◌+◌, ◌<◌, List, [], ◌∷◌, ◌++◌, length, slice_index}
use Rattle.std.specs.List.{flat_map, AllByRecursion}
use Rattle.std.specs.Int.{w32, to_le_bytes}
use Rattle.log_records.specs.declared.Record.{Record}
use Rattle.log_records.specs.Record.{spellings, IsRecord}

-- a length and that many bytes of records
abbrev pub framed : List Record → List ℕ
framed records = to_le_bytes w32 (length (spellings records)) ++ spellings records

-- a batch that counts
abbrev pub batch : List Record → List ℕ
batch records = 1 ∷ framed records

abbrev pub batches_bytes : List (List Record) → List ℕ
batches_bytes batches = flat_map batch batches

-- the records of batches, in order
abbrev pub records_of : List (List Record) → List Record
records_of batches = flat_map (λ records. records) batches

-- The log's bytes hold these batches: they stand there, and after them is a closed gate.
pub record HoldsBatches (log : List ℕ) (batches : List (List Record)) : Type 0 where
  pub gate : ℕ
  pub rest : List ℕ
  pub bytes : log ≡ batches_bytes batches ++ gate ∷ rest
  pub shut : gate ≢ 1

-- A whole batch stands at the front of the bytes: its records are records, and the next gate follows it.
pub record HasBatch (bytes : List ℕ) : Type 0 where
  pub records : List Record
  pub behind : List ℕ
  pub front : bytes ≡ batch records ++ behind
  pub next_gate : 0 < length behind
  pub good : AllByRecursion IsRecord records

-- The batch rule fails at this offset, and nowhere before: whole batches stand up to it, and the gate there is open and
-- no whole batch there.
pub record BreaksAt (log : List ℕ) (offset : ℕ) : Type 0 where
  pub batches : List (List Record)
  pub rest : List ℕ
  pub bytes : log ≡ batches_bytes batches ++ rest
  pub good : AllByRecursion IsRecord (records_of batches)
  pub at : offset ≡ length (batches_bytes batches)
  pub is_open : slice_index rest 0 ≡ 1
  pub none : ¬ HasBatch rest

-- the pending records, as they will be written behind the closed gate, followed by the next closed gate
abbrev pub pending_batch : List Record → List ℕ
pending_batch [] = []
pending_batch (r ∷ rs) = framed (r ∷ rs) ++ 0 ∷ []

-- the batches with the pending records as one more, if there are any
abbrev pub with_batch : List (List Record) → List Record → List (List Record)
with_batch batches [] = batches
with_batch batches (r ∷ rs) = batches ++ (r ∷ rs) ∷ []
