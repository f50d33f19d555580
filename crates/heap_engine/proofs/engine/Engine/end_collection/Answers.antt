use Rattle.std.proofs.Common.{rules, ◌+◌, [], ◌∷◌, length}
use Rattle.gated_log.specs.LogState.{HasSpare}
use Rattle.log_records.specs.declared.Record.TheVariants.{Collected}
use Rattle.log_records.specs.Record.{spellings}
use Rattle.logged_pages.specs.State.{log_of}
use Rattle.heap_engine.proofs.Carried.{carried}
use Rattle.heap_engine.proofs.engine.Engine.end_collection.Goals as goal

pub invariant_of-self-clause-spare : goal.invariant_of-self-clause-spare
invariant_of-self-clause-spare g c =
    let mid = c.make_room.new.self in
    let spare : HasSpare (log_of mid.pages) (length (spellings (Collected ∷ [])) + mid.reserved) = search rules in
    (carried c.carry_out.result c.carry_out.ensures.still.1 c.carry_out.ensures.carries).spare mid.reserved spare
