-- The session's slot is emptied.
use Rattle.std.proofs.Common.{◌<◌, length, arith}
use Rattle.txn_table.proofs.SlotLaws.{left}
use Rattle.txn_table.proofs.txn_table.TxnTable.end.Goals as goal

pub returns : goal.returns
returns c =
    let kept = c.self.inside in
    let within : c.place-place.result < length kept.slots.items = omega (arith, c.place-place.ensures.within, kept.slots.ok.0) in
    left kept.next kept.slots.items c.args.self.now c.args.s c.place-place.result c.self.view_is c.place-place.ensures.place within
