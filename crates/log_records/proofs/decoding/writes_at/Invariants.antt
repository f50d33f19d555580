use Rattle.std.proofs.Common.{◌≡◌, ◌++◌, length}
use Rattle.std.specs.List.{AllByRecursion, flat_map}
use Rattle.log_records.specs.Copies.{write_bytes}
use Rattle.log_records.specs.Record.{IsWrite}
use Rattle.log_records.proofs.decoding.writes_at.Given as goal

-- the writes so far are spelled in front of the rest
abbrev pub invariant-loop : goal.invariant-loop
invariant-loop l = record {
  count : length l.writes.items ≡ l.counter;
  good : AllByRecursion IsWrite l.writes.items;
  read : l.bytes ≡ flat_map write_bytes l.writes.items ++ l.rest;
}
