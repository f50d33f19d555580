-- The session's slot has the transaction with one handle changed.
use Rattle.std.proofs.Common.{◌<◌, length, Some, sym, subst, arith}
use Rattle.std.specs.Prelude.{slice_set}
use Rattle.txn_table.specs.declared.txn_table.TxnTable.TheInside.{Inside}
use Rattle.txn_table.specs.Table.{TransactionState, Changes}
use Rattle.txn_table.specs.Slots.{table_of}
use Rattle.txn_table.proofs.SlotLaws.{read_slot, not_empty, changed}
use Rattle.txn_table.proofs.txn_table.TxnTable.set_handle.Goals.{in-Some, in_default}
use Rattle.txn_table.proofs.txn_table.TxnTable.set_handle.Goals as goal

pub returns : goal.returns
returns c =
    let kept = c.self.inside in
    let place = c.place-place.ensures.place in
    let within : c.place-place.result < length kept.slots.items = omega (arith, c.place-place.ensures.within, kept.slots.ok.0) in
    let change = λ (t : TransactionState). let new : TransactionState = record t { handles = slice_set t.handles c.args.h c.args.to } in new in
    let Now : Inside → Type 0 = λ now. Changes c.args.self.now (table_of now.next now.slots.items) c.args.s change in
    elim c.match-index_mut.branch [
      | in-Some w ↦
          let there = read_slot kept.next kept.slots.items c.args.self.now c.args.s c.place-place.result c.index_mut.result.now (Some w.in-Some.t) c.self.view_is place within c.index_mut.ensures.value w.in-Some.is in
          subst Now (sym w.self-inside-is)
          (changed kept.next kept.slots.items c.args.self.now c.args.s c.place-place.result w.in-Some.t w.set_handle.new.self change c.self.view_is place within there w.set_handle.ensures)
      | in_default w ↦
          absurd (not_empty kept.next kept.slots.items c.args.self.now c.args.s c.place-place.result c.index_mut.result.now c.self.view_is place within c.index_mut.ensures.value w.in_default.is c.requires.active)
    ]
