-- The session's slot gets a transaction that has done nothing.
use Rattle.std.proofs.Common.{◌+◌, ◌-◌, ◌<◌, length, ap, ◌∙◌, arith}
use Rattle.std.specs.FinMap.{insert}
use Rattle.txn_table.specs.Table.{TransactionState, TableState, new_transaction}
use Rattle.txn_table.proofs.SlotLaws.{taken}
use Rattle.txn_table.proofs.txn_table.TxnTable.begin.Goals as goal

pub returns-clause-begun : goal.returns-clause-begun
returns-clause-begun c =
    let kept = c.self.inside in
    let now = c.args.self.now in
    let first = c.requires.first in
    let last = c.requires.last in
    let long = c.self.invariant in
    let within : c.args.s - 1 < length kept.slots.items = omega arith in
    let same = ap (λ (table : TableState). table.next) c.self.view_is in
    taken kept.next kept.slots.items now c.args.s (c.args.s - 1) (kept.next + 1) c.new.result c.self.view_is (omega arith) within
    ∙ ap (λ (t : TransactionState). let table : TableState = record { next = kept.next + 1; active = insert now.active c.args.s t } in table) c.new.ensures
    ∙ ap (λ n. let table : TableState = record { next = n + 1; active = insert now.active c.args.s (new_transaction n) } in table) same
