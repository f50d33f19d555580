-- The area's answer.
use Rattle.std.proofs.Common.{◌≡◌, ◌+◌, ◌<◌, ◌↔◌, Err, length, subst}
use Rattle.volatile_area.specs.declared.area_error.AreaError.TheVariants.{VolatileFull}
use Rattle.txn_table.specs.Table.{TransactionState}
use Rattle.txn_table.proofs.transaction.Transaction.new_object.Goals as goal

pub returns-clause-full : goal.returns-clause-full
returns-clause-full c used =
    let Full : TransactionState → Type 0 = λ t. (c.new_object.result ≡ Err (VolatileFull used)) ↔ ((used ≡ length t.area.words) × (4096 < used + 2 + c.args.fields)) in
    subst Full c.self.view_is (c.new_object.ensures.full used)
