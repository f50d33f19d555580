use Rattle.std.proofs.Common.{arith}
use Rattle.gated_log.proofs.Reader.{length_bytes}
use Rattle.gated_log.proofs.batch.told_length.Goals as goal

pub returns-clause-length : goal.returns-clause-length
returns-clause-length c =
    let cases = c.in_ok-head.ensures.cases in
    (c.batch_length.type_inv, cases.enough, length_bytes c.args.bytes.now c.in_ok-head.head.now c.batch_length.result (λ i. omega (arith, c.type_inv.bytes i)) cases.enough cases.same c.batch_length.ensures.value)
