-- The session's slot has the transaction without its newest write.
use Rattle.std.proofs.Common.{◌<◌, length, Some, drop, sym, ◌∙◌, subst, arith}
use Rattle.txn_table.specs.declared.txn_table.TxnTable.TheInside.{Inside}
use Rattle.txn_table.specs.Table.{TransactionState, Changes}
use Rattle.txn_table.specs.Slots.{table_of}
use Rattle.txn_table.proofs.SlotLaws.{read_slot, not_empty, of_transaction, changed}
use Rattle.txn_table.proofs.txn_table.TxnTable.pop_undo.Goals.{in-Some, in-None}
use Rattle.txn_table.proofs.txn_table.TxnTable.pop_undo.Goals as goal

pub returns-clause-newest : goal.returns-clause-newest
returns-clause-newest c =
    let kept = c.self.inside in
    let place = c.place-place.ensures.place in
    let within : c.place-place.result < length kept.slots.items = omega (arith, c.place-place.ensures.within, kept.slots.ok.0) in
    elim c.match-index_mut.branch [
      | in-Some w ↦
          of_transaction c.args.self.now c.args.s w.in-Some.t _
          (read_slot kept.next kept.slots.items c.args.self.now c.args.s c.place-place.result c.index_mut.result.now (Some w.in-Some.t) c.self.view_is place within c.index_mut.ensures.value w.in-Some.is)
          (w.result-is ∙ w.pop_undo.ensures.newest)
      | in-None w ↦
          absurd (not_empty kept.next kept.slots.items c.args.self.now c.args.s c.place-place.result c.index_mut.result.now c.self.view_is place within c.index_mut.ensures.value w.in-None.is c.requires)
    ]

pub returns-clause-others : goal.returns-clause-others
returns-clause-others c =
    let kept = c.self.inside in
    let place = c.place-place.ensures.place in
    let within : c.place-place.result < length kept.slots.items = omega (arith, c.place-place.ensures.within, kept.slots.ok.0) in
    let less = λ (t : TransactionState). let new : TransactionState = record t { undo = drop 1 t.undo } in new in
    let Now : Inside → Type 0 = λ now. Changes c.args.self.now (table_of now.next now.slots.items) c.args.s less in
    elim c.match-index_mut.branch [
      | in-Some w ↦
          let there = read_slot kept.next kept.slots.items c.args.self.now c.args.s c.place-place.result c.index_mut.result.now (Some w.in-Some.t) c.self.view_is place within c.index_mut.ensures.value w.in-Some.is in
          subst Now (sym w.self-inside-is)
          (changed kept.next kept.slots.items c.args.self.now c.args.s c.place-place.result w.in-Some.t w.pop_undo.new.self less c.self.view_is place within there w.pop_undo.ensures.others)
      | in-None w ↦
          absurd (not_empty kept.next kept.slots.items c.args.self.now c.args.s c.place-place.result c.index_mut.result.now c.self.view_is place within c.index_mut.ensures.value w.in-None.is c.requires)
    ]
