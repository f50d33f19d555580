use Rattle.std.proofs.Common.{◌≡◌, true, sym, subst, []}
use Rattle.std.specs.Prelude.{Contains}
use Rattle.volatile_area.specs.Area.{AreaState, starts_of}
use Rattle.txn_table.specs.Table.{TransactionState, transaction_of}
use Rattle.heap_memory.specs.Memory.{own_fields}
use Rattle.heap_engine.proofs.ObjectFields.{own_none, map_some}
use Rattle.heap_engine.proofs.engine.Engine.own_fields.Goals as goal

pub returns-else-is_object : goal.returns-else-is_object
returns-else-is_object c =
    let at = c.args.at in
    map_some (transaction_of c.args.self.now.table c.args.session) (λ (t : TransactionState). c.area-area.result.now ≡ t.area) (λ (t : TransactionState). [] ≡ own_fields t.area at)
    (λ t is. own_none t.area at (λ has.
    let yes : c.is_object.result ≡ true = c.is_object.ensures.1 (subst (λ (a : AreaState). Contains (starts_of a) at) (sym is) has) in
    absurd (cc (yes, c.if-is_object.false))))
    c.area-area.ensures
