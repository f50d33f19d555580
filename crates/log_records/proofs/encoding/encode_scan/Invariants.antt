use Rattle.std.proofs.Common.{◌≡◌, ◌+◌, ◌*◌, ◌≤◌, ◌∷◌, ◌++◌, take, length, vec_len, vec_capacity}
use Rattle.std.specs.Int.{w16, w32, to_le_bytes}
use Rattle.std.specs.List.{flat_map}
use Rattle.log_records.specs.Copies.{write_bytes}
use Rattle.log_records.proofs.encoding.encode_scan.Given as goal

-- the writes so far are spelled, and there is room for the others
abbrev pub invariant-loop-address : goal.invariant-loop-address
invariant-loop-address l = record {
  spelled : l.into.items ≡ l.fn.into.items ++ (8 ∷ to_le_bytes w32 l.page ++ to_le_bytes w16 (length l.each) ++ flat_map write_bytes (take l.address-index l.each));
  room : vec_len l.into + 12 * length l.each ≤ vec_capacity l.into + 12 * l.address-index;
  grows : vec_capacity l.fn.into ≤ vec_capacity l.into;
}
