use Rattle.std.proofs.Common.{◌≡◌, inl, inr, ℕ, List, Some, None, Ok, sym, ap, ◌∙◌, subst, refl}
use Rattle.script_text.specs.declared.line.Line.{Line}
use Rattle.heap_program.specs.Headline.{made_super, made_core}
use Rattle.heap_program.specs.Playable.{IsScript, IsReadFrom}
use Rattle.heap_program.proofs.CoreSteps.{script_is}
use Rattle.heap_program.proofs.PlayOpen.{new_stored, no_calls}
use Rattle.heap_program.proofs.RunLaws.{large_made, end_sound}
use Rattle.thread_program.specs.Together.{IsPlayedTogether}
use Rattle.thread_program.proofs.SafeLaws.{not_read}
use Rattle.thread_program.proofs.CauseLaws.{rose_from}
use Rattle.thread_program.proofs.FormatLaws.{parts, not_formatted}
use Rattle.thread_program.proofs.PrintsLaws.{prints_script}
use Rattle.heap_program.specs.Causes.{IsFaultless}
use Rattle.heap_program.proofs.Unfaulted.{counts_on, keeps_counts, format_counts, not_disk}
use Rattle.heap_program.proofs.ImageLaws.{answers_own, answers_made, answers_unread, format_error_sound, never_restarted}
use Rattle.heap_program.proofs.RunLaws.{restarts_none}
use Rattle.thread_program.proofs.threads.run_threads.Goals as goal

pub play_by_workers-requires-clause-script : goal.play_by_workers-requires-clause-script
play_by_workers-requires-clause-script g c κs within = let read = c.in-Ok.ensures.script in subst IsScript (sym c.deref.ensures.value) (script_is read.0 c.in-Ok.script.items read.1)

pub play_by_workers-requires-in-Ok-format-clause-script : goal.play_by_workers-requires-in-Ok-format-clause-script
play_by_workers-requires-in-Ok-format-clause-script g c κs within = let read = c.in-Ok.ensures.script in subst IsScript (sym c.deref-in-Ok-format.ensures.value) (script_is read.0 c.in-Ok.script.items read.1)

pub returns-in-None-clause-headline : goal.returns-in-None-clause-headline
returns-in-None-clause-headline g c tells only =
    let read = c.in-Ok.ensures.script in
    rw c.in-None.is (inr (λ stored. record {
      lines = c.deref.result.now;
      script = record { bytes = read.0; script = read.1 ∙ ap (λ (ls : List Line). Ok ls) (sym c.deref.ensures.value); own = read.2 };
      played = c.play_by_workers.ensures.played tells stored only;
    }))

pub returns-in-Ok-format-clause-headline : goal.returns-in-Ok-format-clause-headline
returns-in-Ok-format-clause-headline g c tells only =
    let d = g.D.Disk in
    let k = g.K.Sink in
    let pages = c.in-Some.pages in
    let read = c.in-Ok.ensures.script in
    let lines = c.deref-in-Ok-format.result.now in
    let final = c.play_by_workers-in-Ok-format.result in
    let e = c.in-Ok-format.ensures in
    let made = e.made tells in
    let stored = new_stored pages (d.bytes c.in-Ok-format.disk) made.0 in
    let played = c.play_by_workers-in-Ok-format.ensures.played tells stored made.1 in
    let first = made_core pages (d.bytes c.in-Ok-format.disk) in
    rw c.in-Some.is (inr (record {
      made = c.in-Ok-format.disk;
      format = record { moments = e.moments tells only; empty = made.0; zeros = e.empty tells; kept = e.outside tells; outside = e.moments_outside tells only; only = made.1; passed = (e.passes tells (large_made _ _ e.small)).ok; restarts = e.disk.restarts tells; still = keeps_counts d c.args.disk c.in-Ok-format.disk tt e.disk };
      plays = record {
        lines = lines;
        script = record { bytes = read.0; script = read.1 ∙ ap (λ (ls : List Line). Ok ls) (sym c.deref-in-Ok-format.ensures.value); own = read.2 };
        played = subst (λ (n : ℕ). IsPlayedTogether d c.args.tries lines n first c.in-Ok-format.disk final.1 final.0 k.tells (k.written c.args.sink.now) (k.written c.play_by_workers-in-Ok-format.new.sink)) (no_calls (made_super pages)) played;
      };
    }))

pub returns-in-Ok-format-clause-complete : goal.returns-in-Ok-format-clause-complete
returns-in-Ok-format-clause-complete g c tells only can told lines good unharmed =
    let d = g.D.Disk in
    let made = c.in-Ok-format.ensures.made tells in
    let stored = new_stored c.in-Some.pages (d.bytes c.in-Ok-format.disk) made.0 in
    (c.play_by_workers-in-Ok-format.ensures.played tells stored made.1).runs.end

pub returns-in-Err-clause-headline : goal.returns-in-Err-clause-headline
returns-in-Err-clause-headline g c tells only =
    let d = g.D.Disk in
    not_read d c.args.disk only (λ image since. (g.met.D.Disk g.world.𝓛 g.world.𝓜 g.world.𝓡 ((λ s x. x), (λ x. x), (λ x. x), λ x. x)).only_now tells c.args.disk image since) c.args.fresh c.args.tries (IsReadFrom g.S.Source.tells (g.S.Source.left c.args.source.now)) c.in-Err.status g.K.Sink.tells (g.K.Sink.written c.args.sink.now)
    c.in-Err.ensures.status

-- the image that was opened is the disk's own
pub returns-in-None-clause-prints : goal.returns-in-None-clause-prints
returns-in-None-clause-prints g c =
    let read = c.in-Ok.ensures.script in
    let k = g.K.Sink in
    prints_script (IsReadFrom g.S.Source.tells (g.S.Source.left c.args.source.now)) c.args.tries c.deref.result.now c.play_by_workers.result.0 k.tells (k.written c.args.sink.now) (k.written c.play_by_workers.new.sink)
    (record { bytes = read.0; script = read.1 ∙ ap (λ (ls : List Line). Ok ls) (sym c.deref.ensures.value); own = read.2 }) (λ stored gates own none. own) (λ rose. rose) c.play_by_workers.ensures.prints

-- or that of the heap that was made
pub returns-in-Ok-format-clause-prints : goal.returns-in-Ok-format-clause-prints
returns-in-Ok-format-clause-prints g c =
    let read = c.in-Ok.ensures.script in
    let k = g.K.Sink in
    let made = c.in-Ok-format.ensures.disk.cause in
    prints_script (IsReadFrom g.S.Source.tells (g.S.Source.left c.args.source.now)) c.args.tries c.deref-in-Ok-format.result.now c.play_by_workers-in-Ok-format.result.0 k.tells (k.written c.args.sink.now) (k.written c.play_by_workers-in-Ok-format.new.sink)
    (record { bytes = read.0; script = read.1 ∙ ap (λ (ls : List Line). Ok ls) (sym c.deref-in-Ok-format.ensures.value); own = read.2 })
    (λ stored gates own none. let never : None ≡ Some c.in-Some.pages = sym none ∙ c.in-Some.is in cc never)
    (λ rose. rose_from _ _ _ _ _ _ made.faults_kept made.stops_kept c.play_by_workers-in-Ok-format.ensures.disk.kept rose) c.play_by_workers-in-Ok-format.ensures.prints

-- the heap was not made
pub returns-clause-headline : goal.returns-clause-headline
returns-clause-headline g c tells only =
    let e = c.in-Err-format.ensures in
    rw c.in-Some.is (inl (not_formatted g.D.Disk c.in-Some.pages c.args.disk c.in-Err-format.disk c.in-Err-format.e c.from.result g.K.Sink.tells (g.K.Sink.written c.args.sink.now) c.from.ensures tells e.disk
    (λ less. parts _ _ (e.small less)) e.large (e.passes tells) (e.moments tells only) (e.moments_outside tells only)))

-- no fault of the disk was ignored
pub returns-in-Ok-format-clause-unfaulted : goal.returns-in-Ok-format-clause-unfaulted
returns-in-Ok-format-clause-unfaulted g c none =
    let d = g.D.Disk in
    counts_on d _ _ _ (keeps_counts d c.args.disk c.in-Ok-format.disk tt c.in-Ok-format.ensures.disk) (c.play_by_workers-in-Ok-format.ensures.unfaulted none)

pub returns-clause-unfaulted : goal.returns-clause-unfaulted
returns-clause-unfaulted g c none = format_counts g.D.Disk c.args.disk c.in-Err-format.disk c.in-Err-format.e c.in-Err-format.ensures.disk (not_disk _ (subst IsFaultless c.from.ensures none))

-- the image is the disk's own
pub returns-in-None-clause-image : goal.returns-in-None-clause-image
returns-in-None-clause-image g c = answers_own g.D.Disk 0 c.args.disk _ _ _ _ _ (λ here. c.in-None.is) (λ none. tt) c.play_by_workers.ensures.image

-- or that of the heap that was made
pub returns-in-Ok-format-clause-image : goal.returns-in-Ok-format-clause-image
returns-in-Ok-format-clause-image g c =
    let image = c.play_by_workers-in-Ok-format.ensures.image in
    answers_made g.D.Disk 0 c.args.disk _ _ _ _ (λ none. let never : None ≡ Some c.in-Some.pages = sym none ∙ c.in-Some.is in cc never)
    (λ tells only.
    let made = c.in-Ok-format.ensures.made tells in
    let stored = new_stored c.in-Some.pages (g.D.Disk.bytes c.in-Ok-format.disk) made.0 in
    end_sound _ (c.play_by_workers-in-Ok-format.ensures.played tells stored made.1).runs.end)
    image.unwritten (λ tells. restarts_none 0 _ _ _ (λ done. refl) (never_restarted _ _ _ (image.restarts tells) ∙ c.in-Ok-format.ensures.disk.restarts tells))

-- or none could be made
pub returns-clause-image : goal.returns-clause-image
returns-clause-image g c =
    rw c.from.ensures (answers_made g.D.Disk 0 c.args.disk _ _ _ _ (λ none. let never : None ≡ Some c.in-Some.pages = sym none ∙ c.in-Some.is in cc never)
    (λ tells only. format_error_sound c.in-Err-format.e) (λ unstopped against. refl) (λ tells. restarts_none 0 _ _ _ (λ done. refl) (c.in-Err-format.ensures.disk.restarts tells)))

-- a script that was bad or could not be read left all as it was
pub returns-in-Err-clause-image : goal.returns-in-Err-clause-image
returns-in-Err-clause-image g c = answers_unread g.D.Disk _ 0 c.args.disk _ _ c.in-Err.ensures.status refl (λ tells image since. (g.met.D.Disk g.world.𝓛 g.world.𝓜 g.world.𝓡 ((λ s x. x), (λ x. x), (λ x. x), λ x. x)).only_now tells c.args.disk image since)
