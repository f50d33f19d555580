use Rattle.std.proofs.Common.{inl, inr, ◌+◌, refl, sym, ap, ◌∙◌, subst, arith}
use Rattle.heap_model.specs.Opening.{rollback_of}
use Rattle.heap_model.proofs.Shaped.{shaped_image}
use Rattle.heap_program.specs.Causes.{DiskRose}
use Rattle.heap_program.specs.Stored.{stored_core, stored_calls}
use Rattle.heap_program.specs.StatusOf.{open_status}
use Rattle.heap_program.proofs.Behind.{HasImages, opening_behind}
use Rattle.heap_program.proofs.Causes.{disk_rose_since}
use Rattle.heap_program.proofs.Counts.{counted_mono}
use Rattle.heap_program.proofs.PlayOpen.{opening_stops, stored_running, stored_keeps, stored_moments, stored_super, opened_core}
use Rattle.heap_program.proofs.PrintRecovered.{fails_most, fails_none, no_rollback}
use Rattle.heap_program.proofs.Reopened.{reads_only, refused_memory}
use Rattle.heap_program.proofs.RunLaws.{end_sound}
use Rattle.heap_program.proofs.Statuses.{open_not_done, open_not_refused, open_harm}
use Rattle.heap_recovery.proofs.FaultLaws.{shaped_readable}
use Rattle.thread_program.proofs.PlayedLaws.{OpenedOn, played_together}
use Rattle.thread_program.proofs.UnopenedLaws.{unopened_together}
use Rattle.heap_program.specs.Causes.{IsFaultless}
use Rattle.heap_program.proofs.Unfaulted.{counts_on, keeps_counts, open_counts, faultless_done, not_disk}
use Rattle.heap_program.proofs.ImageLaws.{answers_failed, answers_opened}
use Rattle.heap_program.proofs.RunLaws.{end_sound, restarts_none}
use Rattle.thread_program.proofs.threads.play_by_workers.Goals as goal

pub returns-in-Err-clause-played : goal.returns-in-Err-clause-played
returns-in-Err-clause-played g c tells stored only =
    let d = g.D.Disk in
    let e = c.in-Err.ensures in
    let shaped = shaped_image stored.legal in
    let passes = (e.image.shaped tells stored.heap shaped).passes in
    let outside = (e.image.shaped tells stored.heap shaped).error in
    let few = fails_most (stored_calls stored) (d.passed c.args.disk) (d.passed c.in-Err.disk) c.in-Err.e passes in
    let most = counted_mono few.0 (stored_calls stored) (d.passed c.args.disk) few.1 in
    let total = counted_mono few.0 (stored_calls stored + 0) (d.passed c.args.disk) (omega (arith, few.1)) in
    unopened_together d stored c.args.tries c.args.script.now c.in-Err.e c.from.result c.args.disk c.in-Err.disk g.K.Sink.tells (g.K.Sink.written c.args.sink.now) c.requires.tries c.from.ensures outside
    (stored_moments d stored c.args.disk c.in-Err.disk ((e.image.shaped tells stored.heap shaped).moments only))
    (opening_behind d (stored_core stored) stored.heap (d.bytes c.args.disk) c.args.disk c.in-Err.disk (stored_super d stored)
    ((e.image.readable tells stored.heap shaped.log.state (shaped_readable stored.heap (d.bytes c.args.disk) shaped)).moments only))
    (λ image left. stored_keeps d stored image ((e.image.shaped tells stored.heap shaped).crash only image left))
    (λ image since. (g.met.D.Disk g.world.𝓛 g.world.𝓜 g.world.𝓡 ((λ s x. x), (λ x. x), (λ x. x), λ x. x)).only_now tells c.in-Err.disk image since) (e.image.disk.restarts tells)
    (λ none. fails_none (stored_calls stored) (d.passed c.args.disk) (d.passed c.in-Err.disk) c.in-Err.e (ap open_status none) passes)
    (λ other u. u (open_harm _ _ _ _ c.in-Err.e outside other e.image.disk.cause))
    (omega (arith, few.2, most)) (omega (arith, few.2, total))
    (λ refused. reads_only d c.args.disk c.in-Err.disk ((e.image.left_alone (refused_memory c.in-Err.e refused)).contents tells) only)
    (opening_stops d (stored_calls stored) c.args.disk c.in-Err.disk c.in-Err.e outside passes e.image.disk.cause (λ none. (e.image.shaped tells stored.heap shaped).no_first_stop (no_rollback (rollback_of stored.heap) none)))

pub returns-in-Ok-clause-played : goal.returns-in-Ok-clause-played
returns-in-Ok-clause-played g c tells stored only =
    let d = g.D.Disk in
    let k = g.K.Sink in
    let s = stored.heap.super in
    let first = stored_core stored in
    let n = stored_calls stored in
    let shaped = shaped_image stored.legal in
    let running = stored_running d stored in
    let old = c.in-Ok.heap in
    let e = c.in-Ok.ensures in
    let made_by = c.play_opened-status.ensures.holds tells s first (e.holds tells stored.heap stored.legal only stored.places stored.graph stored.found) running refl in
    let images : HasImages d = record { counts = λ disk t image le may. (g.met.D.Disk g.world.𝓛 g.world.𝓜 g.world.𝓡 ((λ s x. x), (λ x. x), (λ x. x), λ x. x)).counts_now tells disk t image le may; now = λ disk image since. (g.met.D.Disk g.world.𝓛 g.world.𝓜 g.world.𝓡 ((λ s x. x), (λ x. x), (λ x. x), λ x. x)).only_now tells disk image since; reads = λ disk. (g.met.D.Disk g.world.𝓛 g.world.𝓜 g.world.𝓡 ((λ s x. x), (λ x. x), (λ x. x), λ x. x)).reads_an_image tells disk } in
    let opened : OpenedOn d n first c.args.disk old.disk = record {
      has = images;
      opening = stored_moments d stored c.args.disk old.disk ((e.image.shaped tells stored.heap shaped).moments only);
      behind = opening_behind d first stored.heap (d.bytes c.args.disk) c.args.disk old.disk (stored_super d stored) ((e.image.readable tells stored.heap shaped.log.state (shaped_readable stored.heap (d.bytes c.args.disk) shaped)).moments only);
      here = λ image left. stored_keeps d stored image ((e.image.shaped tells stored.heap shaped).crash only image left);
      passed = (e.image.shaped tells stored.heap shaped).passes.ok;
      restarts = e.image.disk.restarts tells;
      counts = keeps_counts d c.args.disk old.disk tt e.image.disk;
      faults = e.image.disk.cause.faults_kept;
      stops = e.image.disk.cause.stops_kept;
    } in
    played_together tells s first running n c.args.disk old c.play_opened-status.result.1 opened c.args.tries c.args.script.now c.play_opened-status.result.0 k.tells (k.written c.args.sink.now) (k.written c.play_opened-status.new.sink) made_by c.close.result c.close.ensures

pub returns-in-Err-clause-prints : goal.returns-in-Err-clause-prints
returns-in-Err-clause-prints g c = inl ((λ done. open_not_done c.in-Err.e (sym c.from.ensures ∙ done)), (λ refused. open_not_refused c.in-Err.e (sym c.from.ensures ∙ refused)), λ t. refl)

pub returns-in-Ok-clause-prints : goal.returns-in-Ok-clause-prints
returns-in-Ok-clause-prints g c =
    let d = g.D.Disk in
    let some = opened_core d.tells (d.bytes c.args.disk) c.in-Ok.heap c.in-Ok.ensures.opens c.in-Ok.ensures.sound in
    let told = c.play_opened-status.ensures.core some.0 some.2 some.1.running some.1.nothing in
    let opening = c.in-Ok.ensures.image.disk.cause in
    let played = c.play_opened-status.ensures.disk in
    inr (record {
      first = some.0;
      opened = some.1.opened;
      image = some.1.image;
      runs = told.0;
      caused = λ failed. elim (c.play_opened-status.ensures.caused some.0 some.2 some.1.running (λ none. failed (sym told.1.memory.failure ∙ none))) [
        | inl rose ↦ inl (subst (λ x. DiskRose (d.faults c.args.disk) (d.stops c.args.disk) (d.faults x) (d.stops x)) (sym c.close.ensures)
            (disk_rose_since _ _ _ _ _ _ opening.faults_kept opening.stops_kept played.faults_kept played.stops_kept rose))
        | inr memory ↦ inr (memory.0, λ t. ap g.K.Sink.written memory.1)
      ];
    })

pub returns-in-Ok-clause-disk : goal.returns-in-Ok-clause-disk
returns-in-Ok-clause-disk g c =
    let d = g.D.Disk in
    let some = opened_core d.tells (d.bytes c.args.disk) c.in-Ok.heap c.in-Ok.ensures.opens c.in-Ok.ensures.sound in
    let opens = c.in-Ok.ensures.image.disk in
    let plays = c.play_opened-status.ensures.disk in
    rw c.close.ensures (record {
      extent = plays.extent ∙ opens.extent;
      origin = plays.origin ∙ opens.origin;
      kept = omega (arith, opens.cause.faults_kept, opens.cause.stops_kept, plays.faults_kept, plays.stops_kept);
      cause = λ is. elim (c.play_opened-status.ensures.caused some.0 some.2 some.1.running (c.play_opened-status.ensures.failed is)) [
        | inl rose ↦ disk_rose_since _ _ _ _ _ _ opens.cause.faults_kept opens.cause.stops_kept plays.faults_kept plays.stops_kept rose
        | inr memory ↦ absurd (let same = sym memory.0 ∙ is in cc)
      ];
    })

-- no fault of the disk was ignored
pub returns-in-Err-clause-unfaulted : goal.returns-in-Err-clause-unfaulted
returns-in-Err-clause-unfaulted g c none = open_counts g.D.Disk c.args.disk c.in-Err.disk c.in-Err.e c.in-Err.ensures.image.disk (not_disk _ (subst IsFaultless c.from.ensures none))

pub returns-in-Ok-clause-unfaulted : goal.returns-in-Ok-clause-unfaulted
returns-in-Ok-clause-unfaulted g c none =
    let d = g.D.Disk in
    let some = opened_core d.tells (d.bytes c.args.disk) c.in-Ok.heap c.in-Ok.ensures.opens c.in-Ok.ensures.sound in
    let done = faultless_done c.play_opened-status.result.0 c.play_opened-status.ensures.end none in
    rw c.close.ensures (counts_on d _ _ _ (keeps_counts d c.args.disk c.in-Ok.heap.disk tt c.in-Ok.ensures.image.disk) (c.play_opened-status.ensures.still some.0 some.2 some.1.running done))

-- the image was not opened
pub returns-in-Err-clause-image : goal.returns-in-Err-clause-image
returns-in-Err-clause-image g c =
    rw c.from.ensures (answers_failed g.D.Disk c.args.disk c.in-Err.disk _ c.in-Err.e refl c.in-Err.ensures.image (λ tells t image le may. (g.met.D.Disk g.world.𝓛 g.world.𝓜 g.world.𝓡 ((λ s x. x), (λ x. x), (λ x. x), λ x. x)).counts_now tells c.in-Err.disk t image le may))

pub returns-in-Ok-clause-image : goal.returns-in-Ok-clause-image
returns-in-Ok-clause-image g c =
    rw c.close.ensures (answers_opened g.D.Disk 0 c.args.disk _ _ _ (end_sound _ c.play_opened-status.ensures.end) (λ tells none. (c.in-Ok.ensures.image.not_heap tells none).told) (λ tells at damage. (c.in-Ok.ensures.image.damaged tells at damage).told)
    (λ tells. restarts_none 0 _ _ _ (λ done. refl) (c.play_opened-status.ensures.disk.restarts tells ∙ c.in-Ok.ensures.image.disk.restarts tells)))
