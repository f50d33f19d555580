use Rattle.std.proofs.Common.{◌≡◌, ◌+◌, ◌≤◌, ◌∷◌, ◌++◌, take, length, vec_len, vec_capacity}
use Rattle.std.specs.Int.{w32, to_le_bytes}
use Rattle.std.specs.List.{flat_map}
use Rattle.log_records.specs.Copies.{copy_bytes}
use Rattle.log_records.proofs.encoding.encode_flip.Given as goal

-- the copies so far are spelled, and there is room for the others
abbrev pub invariant-loop-copy : goal.invariant-loop-copy
invariant-loop-copy l = record {
  spelled : l.into.items ≡ l.fn.into.items ++ (9 ∷ to_le_bytes w32 (length l.each) ++ flat_map copy_bytes (take l.copy-index l.each));
  room : vec_len l.into + length (flat_map copy_bytes l.each) ≤ vec_capacity l.into + length (flat_map copy_bytes (take l.copy-index l.each));
  grows : vec_capacity l.fn.into ≤ vec_capacity l.into;
}
