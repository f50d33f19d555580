use Rattle.std.proofs.Common.{◌≡◌, Err, None, length, refl, sym, ap, ◌∙◌}
use Rattle.log_machine.specs.Machine.{after, words_in}
use Rattle.log_machine.proofs.StateLaws.{leads_after}
use Rattle.page_redo.specs.Pages.{Pages}
use Rattle.page_redo.proofs.RedoLaws.{words-redo_record}
use Rattle.page_cache.specs.CacheState.{cached}
use Rattle.heap_recovery.proofs.LogReplay.{none_of, replayed_past, replayed_on, replayed_to}
use Rattle.heap_recovery.proofs.replaying.Replay.take.Goals as goal

pub returns-then-is_some-clause-on : goal.returns-then-is_some-clause-on
returns-then-is_some-clause-on c of stored records next was =
    replayed_past of stored records c.args.rec.now c.args.self.now c.args.self.now was refl (sym c.if-is_some.ensures) refl refl

pub returns-in-Err-Unshaped-clause-on : goal.returns-in-Err-Unshaped-clause-on
returns-in-Err-Unshaped-clause-on c of stored records next was =
    let stuck : after c.args.self.now.state c.args.rec.now ≡ None = c.after.ensures.unshaped (c.in-Err-Unshaped.is ∙ ap (λ e. Err e) c.in-Err-Unshaped.field-0-is) in
    replayed_to of stored records c.args.rec.now c.args.self.now _ was refl c.args.lsn next (none_of c.args.self.now.unshaped (sym c.if-is_some.ensures)) refl stuck c.in-Err-Unshaped.ensures.err

pub returns-clause-on : goal.returns-clause-on
returns-clause-on c of stored records next was =
    let none : c.args.self.now.unshaped ≡ None = none_of c.args.self.now.unshaped (sym c.if-is_some.ensures) in
    replayed_on of stored records c.args.rec.now c.args.self.now _ was c.redo.ensures.store c.args.lsn next none none c.in-Ok.ensures.ok c.redo.ensures.redone

pub invariant_of-self-2-clause-sized : goal.invariant_of-self-2-clause-sized
invariant_of-self-2-clause-sized c =
    let old = c.args.self.now in
    ap (λ (pages : Pages). length pages.words) c.redo.ensures.redone
    ∙ words-redo_record c.args.lsn (cached old.cache) c.args.rec.now
    ∙ old.sized
    ∙ ap words_in (sym (leads_after old.state c.after.new.self c.args.rec.now c.in-Ok.ensures.ok).pages)
