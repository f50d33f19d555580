-- The LSNs of a log in memory that began with its heap.
use Rattle.std.specs.Prelude.{ℕ, ◌+◌}
use Rattle.gated_log.specs.declared.log.Log.{Log}
use Rattle.gated_log.specs.LogState.{log_count}
use Rattle.page_redo.specs.Origin.{first_lsn}

-- the LSN of the record that is appended next
abbrev pub log_next_lsn : Log → ℕ
log_next_lsn log = log_count log + first_lsn
