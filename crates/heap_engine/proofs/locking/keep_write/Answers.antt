use Rattle.std.proofs.Common.{◌∷◌}
use Rattle.heap_engine.proofs.Tables.{still_active, taken_off}
use Rattle.heap_engine.proofs.locking.keep_write.Goals as goal

pub pop_undo-entry-requires : goal.pop_undo-entry-requires
pop_undo-entry-requires c =
    still_active c.args.table.now c.push_undo.new.self c.args.session (λ t. record t { undo = c.args.entry ∷ t.undo }) c.requires.active c.in_ok-push_undo.ensures.ok

pub returns-in-Err-clause-err : goal.returns-in-Err-clause-err
returns-in-Err-clause-err c = (
  taken_off c.args.table.now c.push_undo.new.self c.pop_undo-entry.new.self c.args.session c.args.entry c.requires.active c.in_ok-push_undo.ensures.ok c.pop_undo-entry.ensures.others,
  c.in-Err.ensures.err,
)
