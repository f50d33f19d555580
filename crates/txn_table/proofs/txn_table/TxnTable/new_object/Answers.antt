-- The session's slot has the transaction with one more object, if there is room.
use Rattle.std.proofs.Common.{◌≡◌, ◌+◌, ◌<◌, ◌↔◌, ℕ, length, Option, Some, Result, Err, sym, subst, arith}
use Rattle.std.specs.Prelude.{IfOk, OnOk, IfSome, IsSomeAnd}
use Rattle.volatile_area.specs.declared.area_error.AreaError.{AreaError}
use Rattle.volatile_area.specs.declared.area_error.AreaError.TheVariants.{VolatileFull}
use Rattle.volatile_area.specs.Area.{with_object}
use Rattle.txn_table.specs.declared.txn_table.TxnTable.TheInside.{Inside}
use Rattle.txn_table.specs.Table.{TransactionState, transaction_of, Changes}
use Rattle.txn_table.specs.Slots.{table_of}
use Rattle.txn_table.proofs.SlotLaws.{read_slot, not_empty, of_transaction, changed, if_ok, on_ok}
use Rattle.txn_table.proofs.txn_table.TxnTable.new_object.Goals.{in-Some, in-None}
use Rattle.txn_table.proofs.txn_table.TxnTable.new_object.Goals as goal

pub returns-clause-index : goal.returns-clause-index
returns-clause-index c =
    let kept = c.self.inside in
    let place = c.place-place.ensures.place in
    let within : c.place-place.result < length kept.slots.items = omega (arith, c.place-place.ensures.within, kept.slots.ok.0) in
    let Told : Result ℕ AreaError → Type 0 = λ r. IfOk r (λ object. IfSome (transaction_of c.args.self.now c.args.s) (λ t. object ≡ length t.area.words)) in
    elim c.match-index_mut.branch [
      | in-Some w ↦
          let there = read_slot kept.next kept.slots.items c.args.self.now c.args.s c.place-place.result c.index_mut.result.now (Some w.in-Some.t) c.self.view_is place within c.index_mut.ensures.value w.in-Some.is in
          subst Told (sym w.result-is)
          (if_ok w.new_object.result (λ object is. of_transaction c.args.self.now c.args.s w.in-Some.t (λ t. object ≡ length t.area.words) there is) w.new_object.ensures.index)
      | in-None w ↦
          absurd (not_empty kept.next kept.slots.items c.args.self.now c.args.s c.place-place.result c.index_mut.result.now c.self.view_is place within c.index_mut.ensures.value w.in-None.is c.requires.active)
    ]

pub returns-clause-made : goal.returns-clause-made
returns-clause-made c =
    let kept = c.self.inside in
    let place = c.place-place.ensures.place in
    let within : c.place-place.result < length kept.slots.items = omega (arith, c.place-place.ensures.within, kept.slots.ok.0) in
    let change = λ (t : TransactionState). let new : TransactionState = record t { area = with_object t.area c.args.fields } in new in
    let now = c.match-index_mut.self-inside in
    let Told : Result ℕ AreaError → Type 0 = λ r. OnOk r (Changes c.args.self.now (table_of now.next now.slots.items) c.args.s change) in
    let Now : Inside → Type 0 = λ now. Changes c.args.self.now (table_of now.next now.slots.items) c.args.s change in
    elim c.match-index_mut.branch [
      | in-Some w ↦
          let there = read_slot kept.next kept.slots.items c.args.self.now c.args.s c.place-place.result c.index_mut.result.now (Some w.in-Some.t) c.self.view_is place within c.index_mut.ensures.value w.in-Some.is in
          subst Told (sym w.result-is)
          (on_ok w.new_object.result (λ is. subst Now (sym w.self-inside-is)
          (changed kept.next kept.slots.items c.args.self.now c.args.s c.place-place.result w.in-Some.t w.new_object.new.self change c.self.view_is place within there is)) w.new_object.ensures.made)
      | in-None w ↦
          absurd (not_empty kept.next kept.slots.items c.args.self.now c.args.s c.place-place.result c.index_mut.result.now c.self.view_is place within c.index_mut.ensures.value w.in-None.is c.requires.active)
    ]

pub returns-clause-full : goal.returns-clause-full
returns-clause-full c used =
    let kept = c.self.inside in
    let place = c.place-place.ensures.place in
    let within : c.place-place.result < length kept.slots.items = omega (arith, c.place-place.ensures.within, kept.slots.ok.0) in
    let full = λ (t : TransactionState). (used ≡ length t.area.words) × (4096 < used + 2 + c.args.fields) in
    let Told : Result ℕ AreaError → Type 0 = λ r. (r ≡ Err (VolatileFull used)) ↔ IsSomeAnd (transaction_of c.args.self.now c.args.s) full in
    elim c.match-index_mut.branch [
      | in-Some w ↦
          let there = read_slot kept.next kept.slots.items c.args.self.now c.args.s c.place-place.result c.index_mut.result.now (Some w.in-Some.t) c.self.view_is place within c.index_mut.ensures.value w.in-Some.is in
          let Of : Option TransactionState → Type 0 = λ o. (w.new_object.result ≡ Err (VolatileFull used)) ↔ IsSomeAnd o full in
          subst Told (sym w.result-is) (subst Of (sym there) (w.new_object.ensures.full used))
      | in-None w ↦
          absurd (not_empty kept.next kept.slots.items c.args.self.now c.args.s c.place-place.result c.index_mut.result.now c.self.view_is place within c.index_mut.ensures.value w.in-None.is c.requires.active)
    ]
