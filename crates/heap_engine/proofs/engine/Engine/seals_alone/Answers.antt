use Rattle.txn_table.specs.Table.{transaction_of}
use Rattle.heap_engine.specs.EngineState.{memory}
use Rattle.heap_engine.proofs.Alone.{alone_told}
use Rattle.heap_engine.proofs.engine.Engine.seals_alone.Goals as goal

pub returns-then-active : goal.returns-then-active
returns-then-active c =
    let s = c.args.self.now in
    alone_told (memory s) (transaction_of s.table c.args.session) c.are_settled.result c.as_slice.result.now c.undo.result.now (c.active.ensures.0 c.if-active.true) c.undo.ensures c.as_slice.ensures.words c.are_settled.ensures
