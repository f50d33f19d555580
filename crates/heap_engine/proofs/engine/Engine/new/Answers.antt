use Rattle.std.proofs.Common.{◌<◌, ◌^◌, length, rules}
use Rattle.logged_pages.specs.State.{pages_in_memory}
use Rattle.heap_engine.proofs.Tables.{sound_new}
use Rattle.heap_engine.proofs.engine.Engine.new.Goals as goal

pub invariant_of-result-clause-sound : goal.invariant_of-result-clause-sound
invariant_of-result-clause-sound c =
    let small : c.args.table.next < 2 ^ 32 = search rules in
    sound_new c.args.table (length (pages_in_memory c.args.pages).words) c.requires.idle c.requires.number small
