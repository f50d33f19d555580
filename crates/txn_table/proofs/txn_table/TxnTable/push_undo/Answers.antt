-- The session's slot has the transaction with one more write.
use Rattle.std.proofs.Common.{◌<◌, ◌∷◌, length, Some, sym, subst, arith}
use Rattle.txn_table.specs.declared.txn_table.TxnTable.TheInside.{Inside}
use Rattle.txn_table.specs.Table.{TransactionState, Changes}
use Rattle.txn_table.specs.Slots.{table_of}
use Rattle.txn_table.proofs.SlotLaws.{read_slot, not_empty, changed}
use Rattle.txn_table.proofs.txn_table.TxnTable.push_undo.Goals.{in-Some+in_ok-push_undo, in_default}
use Rattle.txn_table.proofs.txn_table.TxnTable.push_undo.Goals as goal

pub returns-clause-ok : goal.returns-clause-ok
returns-clause-ok c =
    let kept = c.self.inside in
    let place = c.place-place.ensures.place in
    let within : c.place-place.result < length kept.slots.items = omega (arith, c.place-place.ensures.within, kept.slots.ok.0) in
    let change = λ (t : TransactionState). let new : TransactionState = record t { undo = c.args.entry ∷ t.undo } in new in
    let Now : Inside → Type 0 = λ now. Changes c.args.self.now (table_of now.next now.slots.items) c.args.s change in
    elim c.match-index_mut.branch [
      | in-Some+in_ok-push_undo w ↦
          let there = read_slot kept.next kept.slots.items c.args.self.now c.args.s c.place-place.result c.index_mut.result.now (Some w.in-Some.t) c.self.view_is place within c.index_mut.ensures.value w.in-Some.is in
          subst Now (sym w.self-inside-is)
          (changed kept.next kept.slots.items c.args.self.now c.args.s c.place-place.result w.in-Some.t w.push_undo.new.self change c.self.view_is place within there w.in_ok-push_undo.ensures.ok)
      | in_default w ↦
          absurd (not_empty kept.next kept.slots.items c.args.self.now c.args.s c.place-place.result c.index_mut.result.now c.self.view_is place within c.index_mut.ensures.value w.in_default.is c.requires)
    ]
