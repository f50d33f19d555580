use Rattle.std.proofs.Common.{drop, arith}
use Rattle.log_records.proofs.Fields.{spelled_4}
use Rattle.log_records.proofs.decoding.number_at.Goals as goal

pub returns-clause-found : goal.returns-clause-found
returns-clause-found c =
    (c.read_u32.type_inv, (drop 4 c.args.bytes.now, spelled_4 c.args.bytes.now c.read_u32.result (λ i. omega (arith, c.type_inv.bytes i)) (omega (arith, c.if-bytes-lt4.false)) c.read_u32.ensures))
