use Rattle.std.proofs.Common.{false, ap, ◌∙◌}
use Rattle.std.specs.FinSet as set
use Rattle.object_locks.proofs.Orders.{object_updates, transaction_updates, holding_total, holding_exact}
use Rattle.object_locks.proofs.Sets.{from_list-remove}
use Rattle.object_locks.proofs.Tables.{table_remove}
use Rattle.object_locks.proofs.lock_table.LockTable.remove.Goals as goal

pub invariant_of-self : goal.invariant_of-self
invariant_of-self c =
    table_remove _ _ _ _ c.args.held c.self.invariant (object_updates _ _ c.args.held false c.remove.ensures.updates)
    (transaction_updates _ _ c.args.held _ false c.by_transaction.ensures c.remove-2.ensures.updates)

pub returns : goal.returns
returns c =
    from_list-remove holding_total holding_exact _ _ c.args.held (object_updates _ _ c.args.held false c.remove.ensures.updates)
    ∙ ap (λ held. set.remove held c.args.held) c.self.view_is
