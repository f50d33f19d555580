use Rattle.std.proofs.Common.{◌≡◌, ◌+◌, ◌≤◌, ℕ, inl, false, [], None, Ok, Err, refl, sym, ap, ◌∙◌, subst, arith}
use Rattle.std.proofs.lemmas.Bool.{false≢true}
use Rattle.counts.specs.Count.{counted}
use Rattle.heap_model.proofs.Shaped.{shaped_image}
use Rattle.heap_program.specs.declared.play.Halt.{Halt}
use Rattle.heap_model.specs.CoreRuns.{total_calls}
use Rattle.heap_model.specs.Opening.{rollback_of}
use Rattle.heap_model.specs.Ending.{all_events}
use Rattle.heap_program.proofs.CoreSteps.{all_playable}
use Rattle.heap_program.specs.Stored.{stored_core, stored_calls}
use Rattle.heap_model.specs.Core.{Core}
use Rattle.heap_program.specs.Load.{WritesSummary, core_summary, summary_text}
use Rattle.heap_program.specs.Output.{status_after}
use Rattle.heap_program.specs.StatusOf.{open_status, halt_status}
use Rattle.script_text.specs.Line.{events}
use Rattle.script_text.specs.Load.{load_lines}
use Rattle.heap_program.specs.Causes.{DiskRose, Unharmed}
use Rattle.heap_program.proofs.Causes.{disk_rose_since}
use Rattle.gate_slot.proofs.PassingLaws.{counted-add}
use Rattle.heap_program.proofs.Counts.{counted_mono}
use Rattle.heap_program.proofs.PlayEnds.{run_reached, unfailed_only, lines_wrote, halt_part, halt_lines, keeps_own, ends_early, ends_whole_at, exact_none, exact_passes, passes_most}
use Rattle.heap_program.proofs.PlayOpen.{opening_stops, stored_running, stored_keeps, stored_moments, stored_super, ends_unopened, opened_core, played_unfailed}
use Rattle.heap_program.proofs.Behind.{HasImages, opening_behind}
use Rattle.heap_program.proofs.PrintRecovered.{fails_most, fails_none, no_rollback}
use Rattle.heap_recovery.proofs.FaultLaws.{shaped_readable}
use Rattle.heap_program.proofs.Statuses.{written_end, halt_end, halt_not_done, open_not_done, open_not_refused, open_harm}
use Rattle.heap_program.proofs.LoadRuns.{load_is, load_reached, unwritten_summary, wrote_summary, summarizes, no_line_failed}
use Rattle.heap_program.proofs.Reopened.{reads_only, refused_memory}
use Rattle.heap_program.proofs.RunLaws.{end_sound, restarts_none}
use Rattle.heap_program.proofs.Unfaulted.{counts_on, keeps_counts, open_counts, load_halt, load_not_disk}
use Rattle.heap_program.specs.Causes.{IsFaultlessLoad}
use Rattle.heap_program.proofs.ImageLaws.{answers_failed, answers_opened}
use Rattle.heap_program.proofs.loading.load_whole.Goals as goal

pub returns-in-Err-clause-played : goal.returns-in-Err-clause-played
returns-in-Err-clause-played g c tells stored only =
    let d = g.D.Disk in
    let e = c.in-Err.ensures in
    let shaped = shaped_image stored.legal in
    let passes = (e.image.shaped tells stored.heap shaped).passes in
    let outside = (e.image.shaped tells stored.heap shaped).error in
    let few = fails_most (stored_calls stored) (d.passed c.args.disk) (d.passed c.in-Err.disk) c.in-Err.e passes in
    let most = counted_mono few.0 (stored_calls stored) (d.passed c.args.disk) few.1 in
    let total = counted_mono few.0 (stored_calls stored + 0) (d.passed c.args.disk) (omega (arith, few.1)) in
    record {
      played = ends_unopened d stored None (all_events None (stored_core stored) (events (load_lines c.args.seed c.args.count))) c.in-Err.e c.from.result c.args.disk c.in-Err.disk false [] c.from.ensures outside
          (stored_moments d stored c.args.disk c.in-Err.disk ((e.image.shaped tells stored.heap shaped).moments only))
          (opening_behind d (stored_core stored) stored.heap (d.bytes c.args.disk) c.args.disk c.in-Err.disk (stored_super d stored)
          ((e.image.readable tells stored.heap shaped.log.state (shaped_readable stored.heap (d.bytes c.args.disk) shaped)).moments only))
          (λ image left. stored_keeps d stored image ((e.image.shaped tells stored.heap shaped).crash only image left))
          (λ image since. g.met.D.Disk.only_now tells c.in-Err.disk image since) (e.image.disk.restarts tells)
          (λ none. fails_none (stored_calls stored) (d.passed c.args.disk) (d.passed c.in-Err.disk) c.in-Err.e (ap open_status none) passes)
          (λ other u. u (open_harm _ _ _ _ c.in-Err.e outside other e.image.disk.cause))
          (omega (arith, few.2, most)) (omega (arith, few.2, total))
          (λ refused. reads_only d c.args.disk c.in-Err.disk ((e.image.left_alone (refused_memory c.in-Err.e refused)).contents tells) only)
          (λ stop. opening_stops d (stored_calls stored) c.args.disk c.in-Err.disk c.in-Err.e outside passes e.image.disk.cause
          (λ none. (e.image.shaped tells stored.heap shaped).no_first_stop (no_rollback (rollback_of stored.heap) none)));
      made = λ refused. absurd (open_not_refused c.in-Err.e (sym c.from.ensures ∙ refused));
      written = λ t. unwritten_summary c.from.result _ (g.K.Sink.written c.args.sink.now) (λ done. open_not_done c.in-Err.e (sym c.from.ensures ∙ done));
    }

pub returns-in-Ok-play_load-clause-played : goal.returns-in-Ok-play_load-clause-played
returns-in-Ok-play_load-clause-played g c tells stored only =
    let d = g.D.Disk in
    let s = stored.heap.super in
    let first = stored_core stored in
    let n = stored_calls stored in
    let shaped = shaped_image stored.legal in
    let running = stored_running d stored in
    let playable = all_playable None first (load_lines c.args.seed c.args.count) (load_is c.args.seed c.args.count c.requires.few) in
    let es = all_events None first (events (load_lines c.args.seed c.args.count)) in
    let old = c.in-Ok.heap in
    let new = c.play_load.new.heap in
    let e = c.in-Ok.ensures in
    let plays = c.in-Ok-play_load.ensures.plays tells s first (e.holds tells stored.heap stored.legal only stored.places stored.graph stored.found) running in
    let whole = plays.ends in
    let passed : d.passed old.disk ≡ counted n (d.passed c.args.disk) = (e.image.shaped tells stored.heap shaped).passes.ok in
    let images : HasImages d = record { counts = λ disk t image le may. g.met.D.Disk.counts_now tells disk t image le may; now = λ disk image since. g.met.D.Disk.only_now tells disk image since; reads = λ disk. g.met.D.Disk.reads_an_image tells disk } in
    let keeps = keeps_own s first running refl es playable old new false [] [] (Ok tt) plays tells n c.args.disk images
    (stored_moments d stored c.args.disk old.disk ((e.image.shaped tells stored.heap shaped).moments only))
    (opening_behind d first stored.heap (d.bytes c.args.disk) c.args.disk old.disk (stored_super d stored) ((e.image.readable tells stored.heap shaped.log.state (shaped_readable stored.heap (d.bytes c.args.disk) shaped)).moments only))
    (λ image left. stored_keeps d stored image ((e.image.shaped tells stored.heap shaped).crash only image left)) passed (e.image.disk.restarts tells) (keeps_counts d c.args.disk old.disk tt e.image.disk) in
    let all = total_calls first plays.made in
    let calls : d.passed new.disk ≡ counted (n + all) (d.passed c.args.disk) = whole.1.passes ∙ ap (counted all) passed ∙ counted-add all n (d.passed c.args.disk) in
    let reached = (run_reached s first running refl es playable old new false [] [] (Ok tt) plays).1 in
    let whole_at = ends_whole_at s first running refl es playable old new false [] [] (Ok tt) plays d c.args.disk new.disk n keeps
    c.write_summary.result [] whole.0 whole.1.reached
    (lines_wrote s first running refl es playable old new false [] [] (Ok tt) plays (Ok tt) refl)
    (λ t. absurd (false≢true t)) refl calls
    (unfailed_only s first running refl es playable old new false [] [] (Ok tt) plays (sym plays.heap.core.memory.failure ∙ played_unfailed first (load_lines c.args.seed c.args.count) new false [] [] running (load_is c.args.seed c.args.count c.requires.few) (c.in-Ok-play_load.ensures.core first (e.holds tells stored.heap stored.legal only stored.places stored.graph stored.found).core running)))
    (keeps_counts d c.args.disk old.disk tt e.image.disk) in
    rw (c.close.ensures, c.status_after-status.ensures) (record {
      played = whole_at.0;
      made = λ refused. whole_at.2;
      written = λ t. subst (λ (x : Core). WritesSummary (status_after c.write_summary.result) (summary_text (core_summary c.args.seed c.args.count x)) (g.K.Sink.written c.args.sink.now) (g.K.Sink.written c.write_summary.new.sink)) (sym whole_at.1)
          (wrote_summary c.write_summary.result _ _ _ (c.write_summary.ensures.wrote t plays.core plays.heap.core reached));
    })

pub returns-in-Err-play_load-clause-played : goal.returns-in-Err-play_load-clause-played
returns-in-Err-play_load-clause-played g c tells stored only =
    let d = g.D.Disk in
    let k = g.K.Sink in
    let s = stored.heap.super in
    let first = stored_core stored in
    let n = stored_calls stored in
    let shaped = shaped_image stored.legal in
    let running = stored_running d stored in
    let playable = all_playable None first (load_lines c.args.seed c.args.count) (load_is c.args.seed c.args.count c.requires.few) in
    let es = all_events None first (events (load_lines c.args.seed c.args.count)) in
    let old = c.in-Ok.heap in
    let new = c.play_load.new.heap in
    let h : Halt = c.in-Err-play_load.halt in
    let e = c.in-Ok.ensures in
    let unharmed = λ (u : Unharmed d c.args.disk new.disk) (rose : DiskRose (d.faults old.disk) (d.stops old.disk) (d.faults new.disk) (d.stops new.disk)).
    u (disk_rose_since _ _ _ _ _ _ e.image.disk.cause.faults_kept e.image.disk.cause.stops_kept c.play_load.ensures.disk.cause.faults_kept c.play_load.ensures.disk.cause.stops_kept rose) in
    let plays = c.in-Err-play_load.ensures.plays tells s first (e.holds tells stored.heap stored.legal only stored.places stored.graph stored.found) running in
    let passed : d.passed old.disk ≡ counted n (d.passed c.args.disk) = (e.image.shaped tells stored.heap shaped).passes.ok in
    let images : HasImages d = record { counts = λ disk t image le may. g.met.D.Disk.counts_now tells disk t image le may; now = λ disk image since. g.met.D.Disk.only_now tells disk image since; reads = λ disk. g.met.D.Disk.reads_an_image tells disk } in
    let keeps = keeps_own s first running refl es playable old new false [] [] (Err h) plays tells n c.args.disk images
    (stored_moments d stored c.args.disk old.disk ((e.image.shaped tells stored.heap shaped).moments only))
    (opening_behind d first stored.heap (d.bytes c.args.disk) c.args.disk old.disk (stored_super d stored) ((e.image.readable tells stored.heap shaped.log.state (shaped_readable stored.heap (d.bytes c.args.disk) shaped)).moments only))
    (λ image left. stored_keeps d stored image ((e.image.shaped tells stored.heap shaped).crash only image left)) passed (e.image.disk.restarts tells) (keeps_counts d c.args.disk old.disk tt e.image.disk) in
    let all = total_calls first plays.made in
    let sum = counted-add all n (d.passed c.args.disk) in
    let whole = λ (u : Unharmed d c.args.disk new.disk). exact_passes s first running refl es playable old new false [] [] (Err h) plays (unharmed u) ∙ ap (counted all) passed ∙ sum in
    let most = subst (λ (m : ℕ). d.passed new.disk ≤ m) (ap (counted all) passed ∙ sum) (passes_most s first running refl es playable old new false [] [] (Err h) plays) in
    rw (c.close-in-Err-play_load.ensures, c.from-in-Err-play_load.ensures) (record {
      played = ends_early s first running refl es playable old new false [] [] (Err h) plays d c.args.disk new.disk None n keeps whole most
          _ refl (halt_end h) (halt_not_done h)
          (halt_part s first running refl es playable old new false [] [] (Err h) plays h refl)
          (halt_lines s first running refl es playable old new false [] [] (Err h) plays h refl)
          (λ u. exact_none s first running refl es playable old new false [] [] (Err h) plays (unharmed u)) tt
          (unfailed_only s first running refl es playable old new false [] [] (Err h) plays)
          refl (λ none. keeps_counts d c.args.disk old.disk tt e.image.disk);
      made = λ refused. absurd (no_line_failed h refused c.in-Err-play_load.ensures.sink.cause);
      written = λ t. unwritten_summary (halt_status h) _ (k.written c.args.sink.now) (halt_not_done h);
    })

pub write_summary-requires : goal.write_summary-requires
write_summary-requires g c =
    let some = opened_core g.D.Disk.tells (g.D.Disk.bytes c.args.disk) c.in-Ok.heap c.in-Ok.ensures.opens c.in-Ok.ensures.sound in
    let running = some.1.running in
    let plays = c.in-Ok-play_load.ensures.core some.0 some.2 running in
    record { unfailed = played_unfailed some.0 (load_lines c.args.seed c.args.count) c.play_load.new.heap false [] [] running (load_is c.args.seed c.args.count c.requires.few) plays }

pub returns-in-Err-clause-prints : goal.returns-in-Err-clause-prints
returns-in-Err-clause-prints g c tells = inl ((λ done. open_not_done c.in-Err.e (sym c.from.ensures ∙ done)), (λ refused. open_not_refused c.in-Err.e (sym c.from.ensures ∙ refused)), refl)

pub returns-in-Ok-play_load-clause-prints : goal.returns-in-Ok-play_load-clause-prints
returns-in-Ok-play_load-clause-prints g c tells =
    let k = g.K.Sink in
    let some = opened_core g.D.Disk.tells (g.D.Disk.bytes c.args.disk) c.in-Ok.heap c.in-Ok.ensures.opens c.in-Ok.ensures.sound in
    let plays = c.in-Ok-play_load.ensures.core some.0 some.2 some.1.running in
    let reached = load_reached some.0 c.args.seed c.args.count c.play_load.new.heap false [] [] c.requires.few some.1.running plays in
    rw c.status_after-status.ensures (summarizes some.0 some.1.running some.1.nothing some.1.opened c.args.seed c.args.count c.requires.few c.play_load.new.heap false [] [] plays c.write_summary.result (k.written c.args.sink.now) (k.written c.write_summary.new.sink) (c.write_summary.ensures.wrote tells plays.core plays.is reached))

pub returns-in-Err-play_load-clause-prints : goal.returns-in-Err-play_load-clause-prints
returns-in-Err-play_load-clause-prints g c tells = rw c.from-in-Err-play_load.ensures (inl (halt_not_done c.in-Err-play_load.halt, (λ refused. no_line_failed c.in-Err-play_load.halt refused c.in-Err-play_load.ensures.sink.cause), refl))

-- the sink that takes the lines does not fail
pub returns-in-Err-play_load-clause-sink : goal.returns-in-Err-play_load-clause-sink
returns-in-Err-play_load-clause-sink g c = record {
  kept = omega arith;
  cause = λ is. absurd (no_line_failed c.in-Err-play_load.halt (sym c.from-in-Err-play_load.ensures ∙ is) c.in-Err-play_load.ensures.sink.cause);
}

-- no fault of the disk was ignored
pub returns-in-Err-clause-unfaulted : goal.returns-in-Err-clause-unfaulted
returns-in-Err-clause-unfaulted g c none = open_counts g.D.Disk c.args.disk c.in-Err.disk c.in-Err.e c.in-Err.ensures.image.disk (load_not_disk _ (subst IsFaultlessLoad c.from.ensures none))

pub returns-in-Ok-play_load-clause-unfaulted : goal.returns-in-Ok-play_load-clause-unfaulted
returns-in-Ok-play_load-clause-unfaulted g c none =
    let d = g.D.Disk in
    rw c.close.ensures (counts_on d _ _ _ (keeps_counts d c.args.disk c.in-Ok.heap.disk tt c.in-Ok.ensures.image.disk) (c.in-Ok-play_load.ensures.disk.still refl))

pub returns-in-Err-play_load-clause-unfaulted : goal.returns-in-Err-play_load-clause-unfaulted
returns-in-Err-play_load-clause-unfaulted g c none =
    absurd (no_line_failed c.in-Err-play_load.halt (load_halt c.in-Err-play_load.halt (subst IsFaultlessLoad c.from-in-Err-play_load.ensures none)) c.in-Err-play_load.ensures.sink.cause)

-- the image was not opened
pub returns-in-Err-clause-image : goal.returns-in-Err-clause-image
returns-in-Err-clause-image g c =
    rw c.from.ensures (answers_failed g.D.Disk c.args.disk c.in-Err.disk _ c.in-Err.e refl c.in-Err.ensures.image (λ tells t image le may. g.met.D.Disk.counts_now tells c.in-Err.disk t image le may))

pub returns-in-Ok-play_load-clause-image : goal.returns-in-Ok-play_load-clause-image
returns-in-Ok-play_load-clause-image g c =
    rw (c.close.ensures, c.status_after-status.ensures) (answers_opened g.D.Disk 0 c.args.disk _ _ _ (end_sound _ (written_end c.write_summary.result)) (λ tells none. (c.in-Ok.ensures.image.not_heap tells none).told) (λ tells at damage. (c.in-Ok.ensures.image.damaged tells at damage).told)
    (λ tells. restarts_none 0 _ _ _ (λ done. refl) (c.play_load.ensures.disk.restarts tells ∙ c.in-Ok.ensures.image.disk.restarts tells)))

pub returns-in-Err-play_load-clause-image : goal.returns-in-Err-play_load-clause-image
returns-in-Err-play_load-clause-image g c =
    rw (c.close-in-Err-play_load.ensures, c.from-in-Err-play_load.ensures) (answers_opened g.D.Disk 0 c.args.disk _ _ _ (end_sound _ (halt_end c.in-Err-play_load.halt)) (λ tells none. (c.in-Ok.ensures.image.not_heap tells none).told) (λ tells at damage. (c.in-Ok.ensures.image.damaged tells at damage).told)
    (λ tells. restarts_none 0 _ _ _ (λ done. refl) (c.play_load.ensures.disk.restarts tells ∙ c.in-Ok.ensures.image.disk.restarts tells)))
