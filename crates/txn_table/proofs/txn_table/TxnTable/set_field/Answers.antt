-- The session's slot has the transaction with a word in a field.
use Rattle.std.proofs.Common.{◌<◌, length, Option, Some, sym, subst, arith}
use Rattle.std.specs.Prelude.{IsSomeAnd}
use Rattle.volatile_area.specs.Area.{with_field, HasField}
use Rattle.txn_table.specs.declared.txn_table.TxnTable.TheInside.{Inside}
use Rattle.txn_table.specs.Table.{TransactionState, transaction_of, Changes}
use Rattle.txn_table.specs.Slots.{table_of}
use Rattle.txn_table.proofs.SlotLaws.{read_slot, not_empty, changed, some_and}
use Rattle.txn_table.proofs.txn_table.TxnTable.set_field.Goals.{in-Some, in_default}
use Rattle.txn_table.proofs.txn_table.TxnTable.set_field.Goals as goal

pub set_field-requires-clause-there : goal.set_field-requires-clause-there
set_field-requires-clause-there c =
    let kept = c.self.inside in
    let place = c.place-place.ensures.place in
    let within : c.place-place.result < length kept.slots.items = omega (arith, c.place-place.ensures.within, kept.slots.ok.0) in
    let there = read_slot kept.next kept.slots.items c.args.self.now c.args.s c.place-place.result c.index_mut.result.now (Some c.in-Some.t) c.self.view_is place within c.index_mut.ensures.value c.in-Some.is in
    let Has : Option TransactionState → Type 0 = λ o. IsSomeAnd o (λ t. HasField t.area c.args.object c.args.field) in
    subst Has there c.requires.there

pub returns : goal.returns
returns c =
    let kept = c.self.inside in
    let place = c.place-place.ensures.place in
    let within : c.place-place.result < length kept.slots.items = omega (arith, c.place-place.ensures.within, kept.slots.ok.0) in
    let change = λ (t : TransactionState). let new : TransactionState = record t { area = with_field t.area c.args.object c.args.field c.args.word } in new in
    let Now : Inside → Type 0 = λ now. Changes c.args.self.now (table_of now.next now.slots.items) c.args.s change in
    elim c.match-index_mut.branch [
      | in-Some w ↦
          let there = read_slot kept.next kept.slots.items c.args.self.now c.args.s c.place-place.result c.index_mut.result.now (Some w.in-Some.t) c.self.view_is place within c.index_mut.ensures.value w.in-Some.is in
          subst Now (sym w.self-inside-is)
          (changed kept.next kept.slots.items c.args.self.now c.args.s c.place-place.result w.in-Some.t w.set_field.new.self change c.self.view_is place within there w.set_field.ensures)
      | in_default w ↦
          absurd (not_empty kept.next kept.slots.items c.args.self.now c.args.s c.place-place.result c.index_mut.result.now c.self.view_is place within c.index_mut.ensures.value w.in_default.is (some_and (transaction_of c.args.self.now c.args.s) (λ t. HasField t.area c.args.object c.args.field) c.requires.there))
    ]
