use Rattle.std.proofs.Common.{arith}
use Rattle.log_records.proofs.RecordLaws.{length-word_bytes}
use Rattle.log_records.proofs.encoding.encode_object.Goals as goal

pub returns-in_err-reserve-clause-in_room : goal.returns-in_err-reserve-clause-in_room
returns-in_err-reserve-clause-in_room c room = absurd (omega (arith, length-word_bytes c.args.words.now, c.in_err-reserve.ensures.full))
