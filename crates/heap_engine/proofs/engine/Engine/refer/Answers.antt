use Rattle.std.proofs.Common.{length, Some}
use Rattle.logged_pages.specs.State.{pages_in_memory}
use Rattle.heap_engine.proofs.Tables.{sound_handle}
use Rattle.heap_engine.proofs.engine.Engine.refer.Goals as goal

pub invariant_of-self-clause-sound : goal.invariant_of-self-clause-sound
invariant_of-self-clause-sound c =
    let old = c.args.self.now in
    sound_handle old.table c.set_handle.new.self (length (pages_in_memory old.pages).words) old.reserved old.sealed c.args.session c.args.h (Some c.args.to) old.sound c.requires.active c.set_handle.ensures c.requires.meant
