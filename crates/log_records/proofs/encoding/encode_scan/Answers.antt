use Rattle.std.proofs.Common.{◌∷◌, ◌++◌, ◌≡◌, ℕ, List, get_or, length, take, ap, sym, ◌∙◌, arith, append_assoc}
use Rattle.std.specs.Int.{w16, w32, to_le_bytes}
use Rattle.std.specs.List.{flat_map}
use Rattle.log_records.specs.Copies.{write_bytes}
use Rattle.log_records.proofs.Lists.{spelled_item}
use Rattle.log_records.proofs.RecordLaws.{length-writes}
use Rattle.log_records.proofs.encoding.encode_scan.Goals as goal

pub returns-in_err-reserve-clause-in_room : goal.returns-in_err-reserve-clause-in_room
returns-in_err-reserve-clause-in_room c room =
    absurd (omega (arith, room, length-writes c.args.writes.now, ap (λ (l : List (ℕ × ℕ)). length l) c.as_slice-each.ensures.writes, c.in_err-reserve.ensures.full))

pub loop-address-preserved : goal.loop-address-preserved
loop-address-preserved c =
    let each = c.as_slice-each.result.now in
    let i = c.loop-address.address-index in
    let so_far = c.loop-address.invariant in
    let address = c.in_ok-extend_from_slice-2.ensures in
    let behind = c.in_ok-extend_from_slice-3.ensures in
    let before = c.args.into.now.items in
    let now = c.loop-address.into.items in
    let first = flat_map write_bytes (take i each) in
    let address_bytes = c.to_le_bytes.result in
    let word_bytes = c.to_le_bytes-in-loop-address.result in
    let bytes = address_bytes ++ word_bytes in
    let told : bytes ≡ write_bytes (get_or each i (0, 0)) = λ k. c.to_le_bytes.ensures k ++ c.to_le_bytes-in-loop-address.ensures k in
    let head : List ℕ → List ℕ = λ l. 8 ∷ to_le_bytes w32 c.args.page ++ to_le_bytes w16 (length each) ++ l in
    record {
      spelled = behind.items ∙ ap (λ (l : List ℕ). l ++ word_bytes) address.items ∙ append_assoc now address_bytes word_bytes
          ∙ ap (λ (l : List ℕ). l ++ bytes) so_far.spelled ∙ append_assoc before (head first) bytes
          ∙ ap (λ (l : List ℕ). before ++ head l) (ap (λ (l : List ℕ). first ++ l) told ∙ sym (spelled_item write_bytes each i (0, 0) c.loop-address-test.true));
      room = omega (arith, so_far.room, address.len, address.capacity, behind.len, behind.capacity, ap (λ (l : List ℕ). length l) told);
      grows = omega (arith, so_far.grows, address.capacity, behind.capacity);
    }
