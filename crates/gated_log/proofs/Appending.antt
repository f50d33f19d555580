-- The log while records are appended to it, one after another.
use Rattle.std.proofs.Common.{◌≡◌, ◌+◌, ◌≤◌, List, [], ◌++◌, length, refl, sym, subst, arith}
use Rattle.std.proofs.lemmas.List.{append-nil}
use Rattle.gated_log.specs.declared.log.Log.{Log}
use Rattle.gated_log.specs.LogState.{log_buffer, buffer_size, log_room, log_count, log_used_with, HasSpare, KeepsMemory, IsPlaced, Keeps}
use Rattle.log_records.specs.declared.Record.{Record}
use Rattle.log_records.specs.Record.{spellings}

-- The log has got these records, and has room and memory for the rest.
pub record IsAppending (old now : Log) (done rest : List Record) : Type 0 where
  pub place : IsPlaced old now
  pub memory : KeepsMemory old now
  pub buffer : log_buffer now ≡ log_buffer old ++ spellings done
  pub size : buffer_size now ≡ buffer_size old + length (spellings done)
  pub count : log_count now ≡ log_count old + length done
  pub spare : HasSpare now (length (spellings rest))
  pub room : log_used_with now (length (spellings rest)) ≤ log_room now
  pub added : (batches : List (List Record)) (pending : List Record) → Keeps old batches pending → Keeps now batches (pending ++ done)
