use Rattle.std.proofs.Common.{◌+◌, arith}
use Rattle.log_records.specs.Copies.{copy_bytes}
use Rattle.log_records.proofs.Lists.{length_more, length_first}
use Rattle.log_records.proofs.RecordLaws.{length-copy_bytes}
use Rattle.log_records.proofs.encoding.encode_flip.Goals as goal

pub add_copy-requires : goal.add_copy-requires
add_copy-requires c =
    let each = c.as_slice-each.result.now in
    let i = c.loop-copy.copy-index in
    let k = c.copy-item.result in
    omega (arith, c.loop-copy.invariant.room, length_more copy_bytes each i k c.loop-copy-test.true c.copy-item.is, length_first copy_bytes each (i + 1), length-copy_bytes k)
