-- The handle is one of the array's.
use Rattle.std.proofs.Common.{◌<◌, None, ap, ◌∙◌, sym, length, arith}
use Rattle.std.specs.Prelude.{slice_get}
use Rattle.std.proofs.lemmas.Option.{slice_get-get_or}
use Rattle.txn_table.specs.Table.{TransactionState}
use Rattle.txn_table.proofs.transaction.Transaction.handle.Goals as goal

pub returns : goal.returns
returns c =
    let handles = c.self.inside.handles in
    let all = c.self.invariant in
    let within : c.args.h < length handles = omega arith in
    sym (ap (λ (t : TransactionState). slice_get t.handles c.args.h) c.self.view_is) ∙ slice_get-get_or handles c.args.h None within
