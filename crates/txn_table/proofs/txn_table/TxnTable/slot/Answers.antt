-- The slot says what the session has, and there is none for session 0 and for those after the last.
use Rattle.std.proofs.Common.{None, sym, ap, ◌∙◌, length, List, Option, arith, get_or}
use Rattle.std.specs.Option.{option_copied}
use Rattle.txn_table.specs.Table.{TransactionState}
use Rattle.txn_table.proofs.SlotLaws.{slot_says, slot_past, no_session}
use Rattle.txn_table.proofs.txn_table.TxnTable.slot.Goals as goal

pub returns-in_err-get-in-Some : goal.returns-in_err-get-in-Some
returns-in_err-get-in-Some c =
    let kept = c.self.inside in
    let long = ap (λ (xs : List (Option TransactionState)). length xs) c.as_slice-slots.ensures.value in
    let past = c.in_err-get-in-Some.ensures.lookup.3 in
    let place = c.in-Some.ensures in
    ap option_copied c.from_residual.ensures ∙ sym (slot_past kept.next kept.slots.items c.args.self.now c.args.s c.in-Some.place c.self.view_is (omega arith) (omega arith))

pub returns-in_ok-get-in-Some : goal.returns-in_ok-get-in-Some
returns-in_ok-get-in-Some c =
    let kept = c.self.inside in
    let place = c.in-Some.ensures in
    c.as_ref.ensures.value
    ∙ c.in_ok-get-in-Some.ensures.lookup.3.1 None
    ∙ ap (λ (xs : List (Option TransactionState)). get_or xs c.in-Some.place None) c.as_slice-slots.ensures.value
    ∙ sym (slot_says kept.next kept.slots.items c.args.self.now c.args.s c.in-Some.place c.self.view_is (omega arith))

pub returns-in-None : goal.returns-in-None
returns-in-None c =
    let kept = c.self.inside in
    let none = c.in-None.ensures in
    sym (no_session kept.next kept.slots.items c.args.self.now c.args.s c.self.view_is (omega arith))
