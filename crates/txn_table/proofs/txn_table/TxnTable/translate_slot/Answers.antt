-- The transaction in the slot is updated, if there is one.
use Rattle.std.proofs.Common.{◌+◌, ◌<◌, length, Option, None, Some, refl, sym, subst, arith}
use Rattle.std.specs.Prelude.{slice_set}
use Rattle.txn_table.specs.declared.txn_table.TxnTable.TheInside.{Inside}
use Rattle.txn_table.specs.Slots.{table_of}
use Rattle.txn_table.specs.Table.{TransactionState}
use Rattle.txn_table.specs.Translation.{HasGoneAlongAt}
use Rattle.txn_table.proofs.SlotLaws.{read_slot}
use Rattle.txn_table.proofs.GoneAlong.{gone_at, idle_at}
use Rattle.txn_table.proofs.txn_table.TxnTable.translate_slot.Goals.{in-Some, in_default}
use Rattle.txn_table.proofs.txn_table.TxnTable.translate_slot.Goals as goal

pub returns : goal.returns
returns c =
    let kept = c.self.inside in
    let now = c.args.self.now in
    let i = c.args.place in
    let pairs = c.args.pairs.now in
    let within : i < length kept.slots.items = omega (arith, c.requires.within, c.self.invariant) in
    let Now : Inside → Type 0 = λ new. HasGoneAlongAt pairs (i + 1) now (table_of new.next new.slots.items) in
    elim c.match-index_mut.branch [
      | in-Some w ↦
          let there = read_slot kept.next kept.slots.items now (i + 1) i c.index_mut.result.now (Some w.in-Some.t) c.self.view_is refl within c.index_mut.ensures.value w.in-Some.is in
          subst Now (sym w.self-inside-is) (gone_at pairs kept.next kept.slots.items now (i + 1) i w.in-Some.t w.translate.new.self c.self.view_is refl within there w.translate.ensures)
      | in_default w ↦
          let none = read_slot kept.next kept.slots.items now (i + 1) i c.index_mut.result.now None c.self.view_is refl within c.index_mut.ensures.value w.in_default.is in
          let Left : Option TransactionState → Type 0 = λ o. HasGoneAlongAt pairs (i + 1) now (table_of kept.next (slice_set kept.slots.items i o)) in
          subst Now (sym w.self-inside-is) (subst Left (sym w.in_default.is) (idle_at pairs kept.next kept.slots.items now (i + 1) i c.self.view_is refl within none))
    ]
