-- What a log's bytes are used for, by the offset of the closed gate and the length of its buffer, of which the first
-- four bytes are room for a batch's length.
use Rattle.std.specs.Prelude.{ℕ, ◌+◌, nat_lt, if◌then◌else◌}
use Rattle.log_records.specs.declared.TheConstants.{BATCH_BYTES}

-- the forced batches, a gate, and a batch of the pending records
abbrev pub used_bytes : ℕ → ℕ → ℕ
used_bytes tail buffer = if nat_lt 4 buffer then tail + 2 + buffer else tail + 1

-- what a record of that many bytes takes, with a batch's gate and length if it is the first pending one
abbrev pub need_bytes : ℕ → ℕ → ℕ
need_bytes buffer own = if nat_lt 4 buffer then own else own + BATCH_BYTES
