use Rattle.std.proofs.Common.{sym, ◌∙◌, arith}
use Rattle.logged_pages.specs.State.{pages_in_memory}
use Rattle.txn_table.specs.Table.{transaction_of}
use Rattle.heap_engine.proofs.ObjectFields.{held_few}
use Rattle.heap_engine.proofs.Tables.{granted}
use Rattle.heap_engine.proofs.engine.Engine.get.Goals as goal

pub overflow_cast-i : goal.overflow_cast-i
overflow_cast-i g c =
    let s = c.args.self.now in
    let some = granted (transaction_of s.table c.args.session) c.args.h2 (sym c.handle_refusal.ensures ∙ c.in_default.is) in
    let few = held_few (transaction_of s.table c.args.session) (pages_in_memory s.pages).words c.in-Ok.place c.fields-fields.result.now some c.fields-fields.ensures in
    omega (arith, c.if-i-fields.false, few)
