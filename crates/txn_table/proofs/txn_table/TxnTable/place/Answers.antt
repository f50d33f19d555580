-- The session has a slot.
use Rattle.std.proofs.Common.{arith}
use Rattle.std.proofs.lemmas.Bool.Decides.{nat_tests}
use Rattle.txn_table.proofs.SlotLaws.{has_slot}
use Rattle.txn_table.proofs.txn_table.TxnTable.place.Goals.{then-s-ge1, else-s-ge1}
use Rattle.txn_table.proofs.txn_table.TxnTable.place.Goals as goal

pub prove-unreachable-requires : goal.prove-unreachable-requires
prove-unreachable-requires c =
    let kept = c.self.inside in
    let slot = has_slot kept.next kept.slots.items c.args.self.now c.args.s c.self.view_is c.requires in
    let session = slot.1 in
    let within = slot.2 in
    elim c.if-s-ge1.branch [
      | then-s-ge1 w ↦ grind (arith, nat_tests, kept.slots.ok.0)
      | else-s-ge1 w ↦ omega arith
    ]
