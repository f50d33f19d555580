-- Each slot is empty.
use Rattle.std.proofs.Common.{◌≡◌, ◌+◌, None, length, ap, ◌∙◌, arith}
use Rattle.std.proofs.lemmas.List.{length-replicate}
use Rattle.log_machine.specs.declared.log_state.TheConstants.{LAST_NUMBER}
use Rattle.txn_table.specs.Table.{TableState}
use Rattle.txn_table.specs.Slots.{table_of}
use Rattle.txn_table.proofs.SlotLaws.{all_idle}
use Rattle.txn_table.proofs.txn_table.TxnTable.new.Goals as goal

pub invariant_of-result : goal.invariant_of-result
invariant_of-result c =
    let all : length c.loop.slots.items ≡ c.loop.counter = ap length c.loop.invariant ∙ length-replicate c.loop.counter None in
    let behind = c.loop-test.false in
    let before = c.loop.auto.counter-end in
    omega arith

pub returns : goal.returns
returns c =
    ap (table_of (LAST_NUMBER + 1)) c.loop.invariant
    ∙ ap (λ m. let table : TableState = record { next = LAST_NUMBER + 1; active = m } in table) (all_idle 1 c.loop.counter)
