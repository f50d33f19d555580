use Rattle.std.proofs.Common.{ℕ, List, length, ap, arith}
use Rattle.log_records.proofs.RecordLaws.{length-copy_bytes}
use Rattle.log_records.proofs.decoding.copy_size.Goals as goal

pub returns-clause-size : goal.returns-clause-size
returns-clause-size c = omega (arith, length-copy_bytes c.args.copy.now, ap (λ (l : List ℕ). length l) c.as_slice.ensures)
