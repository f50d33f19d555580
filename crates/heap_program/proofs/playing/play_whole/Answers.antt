use Rattle.std.proofs.Common.{◌≡◌, ◌+◌, ◌≤◌, ℕ, inl, None, Ok, Err, refl, sym, ap, ◌∙◌, subst, arith}
use Rattle.counts.specs.Count.{counted}
use Rattle.heap_model.proofs.Shaped.{shaped_image}
use Rattle.heap_program.specs.declared.play.Halt.{Halt}
use Rattle.heap_model.specs.CoreRuns.{total_calls}
use Rattle.heap_model.specs.Opening.{rollback_of}
use Rattle.heap_model.specs.Ending.{all_events}
use Rattle.heap_program.proofs.CoreSteps.{all_playable}
use Rattle.heap_program.specs.Stored.{stored_core, stored_calls}
use Rattle.heap_program.specs.StatusOf.{open_status}
use Rattle.script_text.specs.Line.{events}
use Rattle.heap_program.specs.Causes.{DiskRose, Unharmed}
use Rattle.heap_program.proofs.Causes.{disk_rose_since}
use Rattle.gate_slot.proofs.PassingLaws.{counted-add}
use Rattle.heap_program.proofs.Counts.{counted_mono}
use Rattle.heap_program.proofs.PlayEnds.{run_reached, unfailed_only, lines_wrote, halt_part, halt_lines, keeps_own, ends_early, ends_whole, exact_none, exact_passes, passes_most}
use Rattle.heap_program.proofs.PlayOpen.{opening_stops, stored_running, stored_keeps, stored_moments, stored_super, ends_unopened, opened_core, played_unfailed}
use Rattle.heap_program.proofs.Behind.{HasImages, opening_behind}
use Rattle.heap_program.proofs.PrintRecovered.{fails_most, fails_none, no_rollback}
use Rattle.heap_recovery.proofs.FaultLaws.{shaped_readable}
use Rattle.heap_program.proofs.Statuses.{written_end, halt_end, halt_not_done, open_not_done, open_harm}
use Rattle.heap_program.proofs.PlayPrints.{reached, prints_early, prints_whole}
use Rattle.heap_program.proofs.Reopened.{reads_only, refused_memory}
use Rattle.heap_program.proofs.RunLaws.{end_sound, restarts_none}
use Rattle.heap_program.proofs.Unfaulted.{counts_on, keeps_counts, open_counts, halt_faulty, not_disk}
use Rattle.heap_program.specs.Causes.{IsFaultless}
use Rattle.heap_program.proofs.ImageLaws.{answers_failed, answers_opened}
use Rattle.heap_program.proofs.playing.play_whole.Goals as goal

pub returns-in-Err-clause-played : goal.returns-in-Err-clause-played
returns-in-Err-clause-played g c tells stored only =
    let d = g.D.Disk in
    let e = c.in-Err.ensures in
    let shaped = shaped_image stored.legal in
    let passes = (e.image.shaped tells stored.heap shaped).passes in
    let outside = (e.image.shaped tells stored.heap shaped).error in
    let few = fails_most (stored_calls stored) (d.passed c.args.disk) (d.passed c.in-Err.disk) c.in-Err.e passes in
    let most = counted_mono few.0 (stored_calls stored) (d.passed c.args.disk) few.1 in
    let total = counted_mono few.0 (stored_calls stored + 0) (d.passed c.args.disk) (omega (arith, few.1)) in
    ends_unopened d stored None (all_events None (stored_core stored) (events c.args.script.now)) c.in-Err.e c.from.result c.args.disk c.in-Err.disk g.K.Sink.tells (g.K.Sink.written c.args.sink.now) c.from.ensures outside
    (stored_moments d stored c.args.disk c.in-Err.disk ((e.image.shaped tells stored.heap shaped).moments only))
    (opening_behind d (stored_core stored) stored.heap (d.bytes c.args.disk) c.args.disk c.in-Err.disk (stored_super d stored)
    ((e.image.readable tells stored.heap shaped.log.state (shaped_readable stored.heap (d.bytes c.args.disk) shaped)).moments only))
    (λ image left. stored_keeps d stored image ((e.image.shaped tells stored.heap shaped).crash only image left))
    (λ image since. g.met.D.Disk.only_now tells c.in-Err.disk image since) (e.image.disk.restarts tells)
    (λ none. fails_none (stored_calls stored) (d.passed c.args.disk) (d.passed c.in-Err.disk) c.in-Err.e (ap open_status none) passes)
    (λ other u. u (open_harm _ _ _ _ c.in-Err.e outside other e.image.disk.cause))
    (omega (arith, few.2, most)) (omega (arith, few.2, total))
    (λ refused. reads_only d c.args.disk c.in-Err.disk ((e.image.left_alone (refused_memory c.in-Err.e refused)).contents tells) only)
    (λ stop. opening_stops d (stored_calls stored) c.args.disk c.in-Err.disk c.in-Err.e outside passes e.image.disk.cause
    (λ none. (e.image.shaped tells stored.heap shaped).no_first_stop (no_rollback (rollback_of stored.heap) none)))

pub returns-in-Ok-play_all-clause-played : goal.returns-in-Ok-play_all-clause-played
returns-in-Ok-play_all-clause-played g c tells stored only =
    let d = g.D.Disk in
    let k = g.K.Sink in
    let s = stored.heap.super in
    let first = stored_core stored in
    let n = stored_calls stored in
    let shaped = shaped_image stored.legal in
    let running = stored_running d stored in
    let playable = all_playable None first c.args.script.now c.requires in
    let es = all_events None first (events c.args.script.now) in
    let old = c.in-Ok.heap in
    let new = c.play_all.new.heap in
    let before = k.written c.args.sink.now in
    let after = k.written c.play_all.new.sink in
    let e = c.in-Ok.ensures in
    let plays = c.in-Ok-play_all.ensures.plays tells s first (e.holds tells stored.heap stored.legal only stored.places stored.graph stored.found) running in
    let whole = plays.ends in
    let passed : d.passed old.disk ≡ counted n (d.passed c.args.disk) = (e.image.shaped tells stored.heap shaped).passes.ok in
    let images : HasImages d = record { counts = λ disk t image le may. g.met.D.Disk.counts_now tells disk t image le may; now = λ disk image since. g.met.D.Disk.only_now tells disk image since; reads = λ disk. g.met.D.Disk.reads_an_image tells disk } in
    let keeps = keeps_own s first running refl es playable old new k.tells before after (Ok tt) plays tells n c.args.disk images
    (stored_moments d stored c.args.disk old.disk ((e.image.shaped tells stored.heap shaped).moments only))
    (opening_behind d first stored.heap (d.bytes c.args.disk) c.args.disk old.disk (stored_super d stored) ((e.image.readable tells stored.heap shaped.log.state (shaped_readable stored.heap (d.bytes c.args.disk) shaped)).moments only))
    (λ image left. stored_keeps d stored image ((e.image.shaped tells stored.heap shaped).crash only image left)) passed (e.image.disk.restarts tells) (keeps_counts d c.args.disk old.disk tt e.image.disk) in
    let all = total_calls first plays.made in
    let calls : d.passed new.disk ≡ counted (n + all) (d.passed c.args.disk) = whole.1.passes ∙ ap (counted all) passed ∙ counted-add all n (d.passed c.args.disk) in
    rw (c.close.ensures, c.status_after-status.ensures) (ends_whole s first running refl es playable old new k.tells before after (Ok tt) plays d c.args.disk new.disk n keeps
    c.write_graph.result (k.written c.write_graph.new.sink) whole.0 whole.1.reached
    (lines_wrote s first running refl es playable old new k.tells before after (Ok tt) plays (Ok tt) refl)
    (λ t. c.write_graph.ensures.wrote t plays.core plays.heap.core (run_reached s first running refl es playable old new k.tells before after (Ok tt) plays).1) refl calls
    (unfailed_only s first running refl es playable old new k.tells before after (Ok tt) plays (sym plays.heap.core.memory.failure ∙ played_unfailed first c.args.script.now new k.tells before after running c.requires (c.in-Ok-play_all.ensures.core first (e.holds tells stored.heap stored.legal only stored.places stored.graph stored.found).core running)))
    (keeps_counts d c.args.disk old.disk tt e.image.disk))

pub returns-in-Err-play_all-clause-played : goal.returns-in-Err-play_all-clause-played
returns-in-Err-play_all-clause-played g c tells stored only =
    let d = g.D.Disk in
    let k = g.K.Sink in
    let s = stored.heap.super in
    let first = stored_core stored in
    let n = stored_calls stored in
    let shaped = shaped_image stored.legal in
    let running = stored_running d stored in
    let playable = all_playable None first c.args.script.now c.requires in
    let es = all_events None first (events c.args.script.now) in
    let old = c.in-Ok.heap in
    let new = c.play_all.new.heap in
    let before = k.written c.args.sink.now in
    let after = k.written c.play_all.new.sink in
    let h : Halt = c.in-Err-play_all.halt in
    let e = c.in-Ok.ensures in
    let unharmed = λ (u : Unharmed d c.args.disk new.disk) (rose : DiskRose (d.faults old.disk) (d.stops old.disk) (d.faults new.disk) (d.stops new.disk)).
    u (disk_rose_since _ _ _ _ _ _ e.image.disk.cause.faults_kept e.image.disk.cause.stops_kept c.play_all.ensures.disk.cause.faults_kept c.play_all.ensures.disk.cause.stops_kept rose) in
    let plays = c.in-Err-play_all.ensures.plays tells s first (e.holds tells stored.heap stored.legal only stored.places stored.graph stored.found) running in
    let passed : d.passed old.disk ≡ counted n (d.passed c.args.disk) = (e.image.shaped tells stored.heap shaped).passes.ok in
    let images : HasImages d = record { counts = λ disk t image le may. g.met.D.Disk.counts_now tells disk t image le may; now = λ disk image since. g.met.D.Disk.only_now tells disk image since; reads = λ disk. g.met.D.Disk.reads_an_image tells disk } in
    let keeps = keeps_own s first running refl es playable old new k.tells before after (Err h) plays tells n c.args.disk images
    (stored_moments d stored c.args.disk old.disk ((e.image.shaped tells stored.heap shaped).moments only))
    (opening_behind d first stored.heap (d.bytes c.args.disk) c.args.disk old.disk (stored_super d stored) ((e.image.readable tells stored.heap shaped.log.state (shaped_readable stored.heap (d.bytes c.args.disk) shaped)).moments only))
    (λ image left. stored_keeps d stored image ((e.image.shaped tells stored.heap shaped).crash only image left)) passed (e.image.disk.restarts tells) (keeps_counts d c.args.disk old.disk tt e.image.disk) in
    let all = total_calls first plays.made in
    let sum = counted-add all n (d.passed c.args.disk) in
    let whole = λ (u : Unharmed d c.args.disk new.disk). exact_passes s first running refl es playable old new k.tells before after (Err h) plays (unharmed u) ∙ ap (counted all) passed ∙ sum in
    let most = subst (λ (m : ℕ). d.passed new.disk ≤ m) (ap (counted all) passed ∙ sum) (passes_most s first running refl es playable old new k.tells before after (Err h) plays) in
    rw (c.close-in-Err-play_all.ensures, c.from-in-Err-play_all.ensures) (ends_early s first running refl es playable old new k.tells before after (Err h) plays d c.args.disk new.disk None n keeps whole most
    _ refl (halt_end h) (halt_not_done h)
    (halt_part s first running refl es playable old new k.tells before after (Err h) plays h refl)
    (halt_lines s first running refl es playable old new k.tells before after (Err h) plays h refl)
    (λ u. exact_none s first running refl es playable old new k.tells before after (Err h) plays (unharmed u)) tt
    (unfailed_only s first running refl es playable old new k.tells before after (Err h) plays)
    refl (λ none. keeps_counts d c.args.disk old.disk tt e.image.disk))

pub write_graph-requires : goal.write_graph-requires
write_graph-requires g c =
    let k = g.K.Sink in
    let some = opened_core g.D.Disk.tells (g.D.Disk.bytes c.args.disk) c.in-Ok.heap c.in-Ok.ensures.opens c.in-Ok.ensures.sound in
    let running = some.1.running in
    let plays = c.in-Ok-play_all.ensures.core some.0 some.2 running in
    record { unfailed = played_unfailed some.0 c.args.script.now c.play_all.new.heap k.tells (k.written c.args.sink.now) (k.written c.play_all.new.sink) running c.requires plays }

pub returns-in-Err-clause-prints : goal.returns-in-Err-clause-prints
returns-in-Err-clause-prints g c tells = inl ((λ done. open_not_done c.in-Err.e (sym c.from.ensures ∙ done)), refl)

pub returns-in-Ok-play_all-clause-prints : goal.returns-in-Ok-play_all-clause-prints
returns-in-Ok-play_all-clause-prints g c tells =
    let k = g.K.Sink in
    let some = opened_core g.D.Disk.tells (g.D.Disk.bytes c.args.disk) c.in-Ok.heap c.in-Ok.ensures.opens c.in-Ok.ensures.sound in
    let before = k.written c.args.sink.now in
    let after = k.written c.play_all.new.sink in
    let new = c.play_all.new.heap in
    let plays = c.in-Ok-play_all.ensures.core some.0 some.2 some.1.running in
    let at_end = reached None some.0 some.1 c.args.script.now c.requires new k.tells before after (Ok tt) plays tells in
    rw c.status_after-status.ensures (prints_whole some.0 some.1 c.args.script.now c.requires new k.tells before after plays tells c.write_graph.result (k.written c.write_graph.new.sink) (c.write_graph.ensures.wrote tells plays.core plays.is at_end))

pub returns-in-Err-play_all-clause-prints : goal.returns-in-Err-play_all-clause-prints
returns-in-Err-play_all-clause-prints g c tells =
    let k = g.K.Sink in
    let some = opened_core g.D.Disk.tells (g.D.Disk.bytes c.args.disk) c.in-Ok.heap c.in-Ok.ensures.opens c.in-Ok.ensures.sound in
    let h : Halt = c.in-Err-play_all.halt in
    let plays = c.in-Err-play_all.ensures.core some.0 some.2 some.1.running in
    rw c.from-in-Err-play_all.ensures (prints_early None some.0 some.1 c.args.script.now c.requires c.play_all.new.heap k.tells (k.written c.args.sink.now) (k.written c.play_all.new.sink) (Err h) plays tells h refl)

-- no fault of the disk was ignored
pub returns-in-Err-clause-unfaulted : goal.returns-in-Err-clause-unfaulted
returns-in-Err-clause-unfaulted g c none = open_counts g.D.Disk c.args.disk c.in-Err.disk c.in-Err.e c.in-Err.ensures.image.disk (not_disk _ (subst IsFaultless c.from.ensures none))

pub returns-in-Ok-play_all-clause-unfaulted : goal.returns-in-Ok-play_all-clause-unfaulted
returns-in-Ok-play_all-clause-unfaulted g c none =
    let d = g.D.Disk in
    rw c.close.ensures (counts_on d _ _ _ (keeps_counts d c.args.disk c.in-Ok.heap.disk tt c.in-Ok.ensures.image.disk) (c.in-Ok-play_all.ensures.disk.still refl))

pub returns-in-Err-play_all-clause-unfaulted : goal.returns-in-Err-play_all-clause-unfaulted
returns-in-Err-play_all-clause-unfaulted g c none = absurd (halt_faulty c.in-Err-play_all.halt (subst IsFaultless c.from-in-Err-play_all.ensures none))

-- the image was not opened
pub returns-in-Err-clause-image : goal.returns-in-Err-clause-image
returns-in-Err-clause-image g c =
    rw c.from.ensures (answers_failed g.D.Disk c.args.disk c.in-Err.disk _ c.in-Err.e refl c.in-Err.ensures.image (λ tells t image le may. g.met.D.Disk.counts_now tells c.in-Err.disk t image le may))

pub returns-in-Ok-play_all-clause-image : goal.returns-in-Ok-play_all-clause-image
returns-in-Ok-play_all-clause-image g c =
    rw (c.close.ensures, c.status_after-status.ensures) (answers_opened g.D.Disk 0 c.args.disk _ _ _ (end_sound _ (written_end c.write_graph.result)) (λ tells none. (c.in-Ok.ensures.image.not_heap tells none).told) (λ tells at damage. (c.in-Ok.ensures.image.damaged tells at damage).told)
    (λ tells. restarts_none 0 _ _ _ (λ done. refl) (c.play_all.ensures.disk.restarts tells ∙ c.in-Ok.ensures.image.disk.restarts tells)))

pub returns-in-Err-play_all-clause-image : goal.returns-in-Err-play_all-clause-image
returns-in-Err-play_all-clause-image g c =
    rw (c.close-in-Err-play_all.ensures, c.from-in-Err-play_all.ensures) (answers_opened g.D.Disk 0 c.args.disk _ _ _ (end_sound _ (halt_end c.in-Err-play_all.halt)) (λ tells none. (c.in-Ok.ensures.image.not_heap tells none).told) (λ tells at damage. (c.in-Ok.ensures.image.damaged tells at damage).told)
    (λ tells. restarts_none 0 _ _ _ (λ done. refl) (c.play_all.ensures.disk.restarts tells ∙ c.in-Ok.ensures.image.disk.restarts tells)))
