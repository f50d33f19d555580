use Rattle.std.proofs.Common.{true, false, ap, ◌∙◌, arith}
use Rattle.std.specs.FinSet as set
use Rattle.object_locks.proofs.Orders.{object_updates, transaction_updates, holding_total, holding_exact}
use Rattle.object_locks.proofs.Sets.{from_list-insert, from_list-same}
use Rattle.object_locks.proofs.Tables.{table_insert, table_back, new_owned}
use Rattle.object_locks.proofs.lock_table.LockTable.add.Goals as goal

pub invariant_of-self-in_default : goal.invariant_of-self-in_default
invariant_of-self-in_default c =
    table_insert _ _ _ _ c.args.holding c.self.invariant (object_updates _ _ c.args.holding true c.in_ok-insert.ensures.updates)
    (transaction_updates _ _ c.args.holding _ true c.by_transaction.ensures c.in_default.ensures.updates) (omega arith)

pub returns-clause-ok : goal.returns-clause-ok
returns-clause-ok c =
    from_list-insert holding_total holding_exact _ _ c.args.holding (object_updates _ _ c.args.holding true c.in_ok-insert.ensures.updates)
    ∙ ap (λ held. set.insert held c.args.holding) c.self.view_is

pub invariant_of-self-in-Err : goal.invariant_of-self-in-Err
invariant_of-self-in-Err c =
    table_back _ _ _ _ _ c.args.holding c.self.invariant (object_updates _ _ c.args.holding true c.in_ok-insert.ensures.updates) (object_updates _ _ c.args.holding false c.remove.ensures.updates)
    (new_owned _ _ c.args.holding _ c.by_transaction.ensures c.self.invariant c.in-Err.ensures.absent) c.in-Err.ensures.err

pub returns-in-Err-clause-err : goal.returns-in-Err-clause-err
returns-in-Err-clause-err c =
    from_list-same holding_total holding_exact _ _ _ c.args.holding (object_updates _ _ c.args.holding true c.in_ok-insert.ensures.updates) (object_updates _ _ c.args.holding false c.remove.ensures.updates)
    (new_owned _ _ c.args.holding _ c.by_transaction.ensures c.self.invariant c.in-Err.ensures.absent)
    ∙ c.self.view_is
