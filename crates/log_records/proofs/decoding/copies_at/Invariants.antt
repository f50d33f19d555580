use Rattle.std.proofs.Common.{◌≡◌, ◌++◌, length}
use Rattle.std.specs.List.{AllByRecursion, flat_map}
use Rattle.log_records.specs.Copies.{copy_bytes}
use Rattle.log_records.specs.Record.{IsObjectCopy}
use Rattle.log_records.proofs.decoding.copies_at.Given as goal

-- the copies so far are spelled in front of the rest
abbrev pub invariant-loop : goal.invariant-loop
invariant-loop l = record {
  count : length l.copies.items ≡ l.counter;
  good : AllByRecursion IsObjectCopy l.copies.items;
  read : l.bytes ≡ flat_map copy_bytes l.copies.items ++ l.rest;
}
