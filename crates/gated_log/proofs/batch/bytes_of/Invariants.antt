use Rattle.std.proofs.Common.{◌≡◌, ◌+◌, length, drop}
use Rattle.log_records.specs.Record.{spellings}
use Rattle.gated_log.proofs.batch.bytes_of.Given as goal

abbrev pub invariant-loop-rec : goal.invariant-loop-rec
invariant-loop-rec l = l.bytes + length (spellings (drop l.rec-index l.records)) ≡ length (spellings l.records)
