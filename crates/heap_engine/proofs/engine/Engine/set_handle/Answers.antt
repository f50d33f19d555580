use Rattle.std.proofs.Common.{length, sym, ◌∙◌}
use Rattle.logged_pages.specs.State.{pages_in_memory}
use Rattle.heap_engine.proofs.Tables.{granted, sound_handle}
use Rattle.heap_engine.proofs.engine.Engine.set_handle.Goals as goal

pub invariant_of-self-clause-sound : goal.invariant_of-self-clause-sound
invariant_of-self-clause-sound c =
    let old = c.args.self.now in
    let some = granted _ c.args.h (sym c.handle_refusal.ensures ∙ c.in_default.is) in
    sound_handle old.table c.set_handle.new.self (length (pages_in_memory old.pages).words) old.reserved old.sealed c.args.session c.args.h c.args.to old.sound some c.set_handle.ensures c.requires
