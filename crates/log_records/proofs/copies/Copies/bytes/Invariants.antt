use Rattle.std.proofs.Common.{◌≡◌, ◌*◌, ◌≤◌, length, take}
use Rattle.std.specs.List.{flat_map}
use Rattle.log_records.specs.Copies.{copy_bytes}
use Rattle.log_records.proofs.copies.Copies.bytes.Given as goal

-- the bytes of the copies so far, of which each has 4104 at most
abbrev pub invariant-loop-copy : goal.invariant-loop-copy
invariant-loop-copy l = record {
  so_far : l.bytes ≡ length (flat_map copy_bytes (take l.copy-index l.copy-items));
  small : l.bytes ≤ 4104 * l.copy-index;
}
