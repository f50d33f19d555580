use Rattle.std.proofs.Common.{◌≡◌, ℕ, List, ◌-◌, ◌++◌, length, drop, ap, arith, length-append}
use Rattle.std.proofs.lemmas.List.{length-take, length-drop}
use Rattle.log_records.proofs.RecordLaws.{length-word_bytes}
use Rattle.log_records.proofs.encoding.write_copy.Goals as goal

pub write_u64_into-requires : goal.write_u64_into-requires
write_u64_into-requires c =
    let head = c.copy_from_slice.new.self in
    let left = drop 9 c.args.into.now in
    let all = head ++ left in
    let words : length c.words.result.now ≡ length c.args.copy.now.words = ap (λ (l : List ℕ). length l) c.words.ensures in
    omega (
      arith,
      c.requires,
      c.copy_from_slice.ensures.len,
      words,
      length-word_bytes c.args.copy.now.words,
      length-append head left,
      length-drop {A = ℕ} 9 c.args.into.now,
      length-drop {A = ℕ} 9 all,
      length-take {A = ℕ} (length all - 9) (drop 9 all),
    )
