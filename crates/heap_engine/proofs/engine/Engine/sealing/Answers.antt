use Rattle.std.proofs.Common.{length}
use Rattle.logged_pages.specs.State.{pages_in_memory}
use Rattle.txn_table.specs.Table.{transaction_of}
use Rattle.heap_engine.specs.Reserve.{undo_if}
use Rattle.heap_engine.specs.EngineState.{memory}
use Rattle.heap_engine.proofs.Tables.{told_undo, inside_of}
use Rattle.heap_engine.proofs.Found.{written_inside, found_is}
use Rattle.heap_engine.proofs.engine.Engine.sealing.Goals as goal

pub new-requires : goal.new-requires
new-requires c =
    let s = c.args.self.now in
    let o = transaction_of s.table c.args.session in
    let is = told_undo o c.undo-undo.result.now c.requires c.undo-undo.ensures in
    let inside = inside_of s.table (length (pages_in_memory s.pages).words) s.reserved s.sealed c.args.session s.sound in
    record { inside = written_inside (pages_in_memory s.pages).words c.as_slice.result.now c.undo-undo.result.now (undo_if o) is c.as_slice.ensures.words inside }

pub returns : goal.returns
returns c =
    let s = c.args.self.now in
    found_is c.new.result (memory s) (transaction_of s.table c.args.session) c.area-area.result.now c.as_slice.result.now c.undo-undo.result.now
    c.area-area.ensures c.undo-undo.ensures c.as_slice.ensures.words c.new.ensures.fields c.new.ensures.objects c.new.ensures.need
