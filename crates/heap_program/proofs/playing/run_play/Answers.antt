use Rattle.std.proofs.Common.{◌≡◌, inr, ℕ, List, Some, None, Ok, sym, ap, ◌∙◌, subst, refl}
use Rattle.script_text.specs.declared.line.Line.{Line}
use Rattle.heap_program.proofs.CoreSteps.{script_is}
use Rattle.heap_model.specs.Ending.{all_events}
use Rattle.script_text.specs.Line.{events}
use Rattle.heap_program.specs.Headline.{made_super, stop_after, IsPlayed, made_core, RestartsDisk, restarts_asked}
use Rattle.heap_program.specs.Playable.{IsScript, IsReadFrom}
use Rattle.heap_program.proofs.PlayOpen.{new_stored, no_calls}
use Rattle.heap_program.proofs.PlayPrints.{prints_script}
use Rattle.heap_program.proofs.RunLaws.{large_made, not_read, end_sound, restarts_none}
use Rattle.heap_program.proofs.Unfaulted.{counts_on, keeps_counts, format_counts, not_disk}
use Rattle.heap_program.specs.Causes.{IsFaultless}
use Rattle.heap_program.proofs.ImageLaws.{answers_own, answers_made, answers_unread, format_error_sound, format_not_done}
use Rattle.heap_program.proofs.playing.run_play.Goals as goal

pub play_script-requires : goal.play_script-requires
play_script-requires g c = let read = c.in-Ok.ensures.script in subst IsScript (sym c.deref.ensures.value) (script_is read.0 c.in-Ok.script.items read.1)

pub returns-in-None-clause-headline : goal.returns-in-None-clause-headline
returns-in-None-clause-headline g c tells only =
    let read = c.in-Ok.ensures.script in
    rw c.in-None.is (inr (λ stored. record {
      lines = c.deref.result.now;
      script = record { bytes = read.0; script = read.1 ∙ ap (λ (ls : List Line). Ok ls) (sym c.deref.ensures.value); own = read.2 };
      played = c.play_script.ensures.played tells stored only;
    }))

pub play_script-requires-in-Ok-format : goal.play_script-requires-in-Ok-format
play_script-requires-in-Ok-format g c = let read = c.in-Ok.ensures.script in subst IsScript (sym c.deref-in-Ok-format.ensures.value) (script_is read.0 c.in-Ok.script.items read.1)

pub returns-in-Ok-format-clause-headline : goal.returns-in-Ok-format-clause-headline
returns-in-Ok-format-clause-headline g c tells only =
    let d = g.D.Disk in
    let k = g.K.Sink in
    let pages = c.in-Some.pages in
    let read = c.in-Ok.ensures.script in
    let lines = c.deref-in-Ok-format.result.now in
    let final = c.play_script-in-Ok-format.result in
    let e = c.in-Ok-format.ensures in
    let made = e.made tells in
    let stored = new_stored pages (d.bytes c.in-Ok-format.disk) made.0 in
    let played = c.play_script-in-Ok-format.ensures.played tells stored made.1 in
    let first = made_core pages (d.bytes c.in-Ok-format.disk) in
    let es = all_events (stop_after c.args.stop) first (events lines) in
    rw c.in-Some.is (inr (record {
      made = c.in-Ok-format.disk;
      format = record { moments = e.moments tells only; empty = made.0; zeros = e.empty tells; kept = e.outside tells; outside = e.moments_outside tells only; only = made.1; passed = (e.passes tells (large_made _ _ e.small)).ok; restarts = e.disk.restarts tells; still = keeps_counts d c.args.disk c.in-Ok-format.disk tt e.disk };
      plays = record {
        lines = lines;
        script = record { bytes = read.0; script = read.1 ∙ ap (λ (ls : List Line). Ok ls) (sym c.deref-in-Ok-format.ensures.value); own = read.2 };
        played = subst (λ (n : ℕ). IsPlayed d c.args.stop n first es c.in-Ok-format.disk final.1 final.0 k.tells (k.written c.args.sink.now) (k.written c.play_script-in-Ok-format.new.sink)) (no_calls (made_super pages)) played;
      };
    }))

pub returns-in-Ok-format-clause-complete : goal.returns-in-Ok-format-clause-complete
returns-in-Ok-format-clause-complete g c tells only can told lines good unharmed =
    let d = g.D.Disk in
    let made = c.in-Ok-format.ensures.made tells in
    let stored = new_stored c.in-Some.pages (d.bytes c.in-Ok-format.disk) made.0 in
    (c.play_script-in-Ok-format.ensures.played tells stored made.1).end

pub returns-in-Err-clause-headline : goal.returns-in-Err-clause-headline
returns-in-Err-clause-headline g c tells only =
    let d = g.D.Disk in
    not_read d c.args.disk only (λ image since. g.met.D.Disk.only_now tells c.args.disk image since) c.args.fresh c.args.stop (IsReadFrom g.S.Source.tells (g.S.Source.left c.args.source.now)) c.in-Err.status g.K.Sink.tells (g.K.Sink.written c.args.sink.now)
    c.in-Err.ensures.status

-- the image that was opened is the disk's own
pub returns-in-None-clause-prints : goal.returns-in-None-clause-prints
returns-in-None-clause-prints g c tells =
    let read = c.in-Ok.ensures.script in
    let k = g.K.Sink in
    prints_script (IsReadFrom g.S.Source.tells (g.S.Source.left c.args.source.now)) (stop_after c.args.stop) c.deref.result.now c.play_script.result.0 (k.written c.args.sink.now) (k.written c.play_script.new.sink)
    (record { bytes = read.0; script = read.1 ∙ ap (λ (ls : List Line). Ok ls) (sym c.deref.ensures.value); own = read.2 }) (λ stored gates own none. own) (c.play_script.ensures.prints tells)

-- or that of the heap that was made
pub returns-in-Ok-format-clause-prints : goal.returns-in-Ok-format-clause-prints
returns-in-Ok-format-clause-prints g c tells =
    let read = c.in-Ok.ensures.script in
    let k = g.K.Sink in
    prints_script (IsReadFrom g.S.Source.tells (g.S.Source.left c.args.source.now)) (stop_after c.args.stop) c.deref-in-Ok-format.result.now c.play_script-in-Ok-format.result.0 (k.written c.args.sink.now) (k.written c.play_script-in-Ok-format.new.sink)
    (record { bytes = read.0; script = read.1 ∙ ap (λ (ls : List Line). Ok ls) (sym c.deref-in-Ok-format.ensures.value); own = read.2 })
    (λ stored gates own none. let never : None ≡ Some c.in-Some.pages = sym none ∙ c.in-Some.is in cc never) (c.play_script-in-Ok-format.ensures.prints tells)

-- no fault of the disk was ignored
pub returns-in-Ok-format-clause-unfaulted : goal.returns-in-Ok-format-clause-unfaulted
returns-in-Ok-format-clause-unfaulted g c unstopped none =
    let d = g.D.Disk in
    counts_on d _ _ _ (keeps_counts d c.args.disk c.in-Ok-format.disk tt c.in-Ok-format.ensures.disk) (c.play_script-in-Ok-format.ensures.unfaulted unstopped none)

pub returns-clause-unfaulted : goal.returns-clause-unfaulted
returns-clause-unfaulted g c unstopped none =
    format_counts g.D.Disk c.args.disk c.in-Err-format.disk c.in-Err-format.e c.in-Err-format.ensures.disk (not_disk _ (subst IsFaultless c.from.ensures none))

-- the image is the disk's own
pub returns-in-None-clause-image : goal.returns-in-None-clause-image
returns-in-None-clause-image g c = answers_own g.D.Disk (restarts_asked c.args.stop) c.args.disk _ _ _ _ _ (λ here. c.in-None.is) (λ none. tt) c.play_script.ensures.image

-- or that of the heap that was made
pub returns-in-Ok-format-clause-image : goal.returns-in-Ok-format-clause-image
returns-in-Ok-format-clause-image g c =
    let image = c.play_script-in-Ok-format.ensures.image in
    let r = g.D.Disk.restarts in
    answers_made g.D.Disk (restarts_asked c.args.stop) c.args.disk _ _ _ _ (λ none. let never : None ≡ Some c.in-Some.pages = sym none ∙ c.in-Some.is in cc never)
    (λ tells only.
    let made = c.in-Ok-format.ensures.made tells in
    let stored = new_stored c.in-Some.pages (g.D.Disk.bytes c.in-Ok-format.disk) made.0 in
    end_sound _ (c.play_script-in-Ok-format.ensures.played tells stored made.1).end)
    image.unwritten
    (λ tells. subst (λ (n : ℕ). RestartsDisk (restarts_asked c.args.stop) c.play_script-in-Ok-format.result.0 n (r c.play_script-in-Ok-format.result.1)) (c.in-Ok-format.ensures.disk.restarts tells) (image.restarts tells))

-- or none could be made
pub returns-clause-image : goal.returns-clause-image
returns-clause-image g c =
    rw c.from.ensures (answers_made g.D.Disk (restarts_asked c.args.stop) c.args.disk _ _ _ _ (λ none. let never : None ≡ Some c.in-Some.pages = sym none ∙ c.in-Some.is in cc never)
    (λ tells only. format_error_sound c.in-Err-format.e) (λ unstopped against. refl)
    (λ tells. restarts_none (restarts_asked c.args.stop) _ _ _ (λ done. absurd (format_not_done c.in-Err-format.e done)) (c.in-Err-format.ensures.disk.restarts tells)))

-- a script that was bad or could not be read left all as it was
pub returns-in-Err-clause-image : goal.returns-in-Err-clause-image
returns-in-Err-clause-image g c = answers_unread g.D.Disk _ (restarts_asked c.args.stop) c.args.disk _ _ c.in-Err.ensures.status refl (λ tells image since. g.met.D.Disk.only_now tells c.args.disk image since)
