-- All slots were visited.
use Rattle.std.proofs.Common.{arith}
use Rattle.txn_table.proofs.GoneAlong.{gone_all}
use Rattle.txn_table.proofs.txn_table.TxnTable.translate.Goals as goal

pub returns : goal.returns
returns c =
    let kept = c.self.inside in
    gone_all c.args.pairs.now c.loop-place.place kept.next kept.slots.items c.args.self.now c.loop-place.self c.self.view_is
    (omega (arith, kept.slots.ok.0, c.len-place-end.ensures, c.loop-place-test.false)) c.loop-place.invariant
