use Rattle.std.proofs.Common.{◌≡◌, ◌++◌, ◌+◌, inr, Ok, Err, refl, sym, ap, ◌∙◌, subst, arith}
use Rattle.heap_model.proofs.Shaped.{shaped_image}
use Rattle.heap_program.specs.declared.play.Halt.TheVariants as halt
use Rattle.heap_program.specs.declared.status.Status.TheVariants as status
use Rattle.heap_program.specs.Causes.{DiskRose, IsFaultless, Unharmed}
use Rattle.heap_program.specs.StatusOf.{open_status}
use Rattle.heap_program.specs.Stored.{stored_core, stored_calls}
use Rattle.heap_program.proofs.Causes.{rose_sum, rose_sum_stops, disk_rose_since}
use Rattle.heap_program.proofs.Counts.{counted_mono}
use Rattle.heap_recovery.proofs.FaultLaws.{shaped_readable}
use Rattle.heap_program.proofs.Behind.{opening_behind}
use Rattle.heap_program.proofs.PlayOpen.{stored_running, stored_keeps, stored_moments, stored_super, opened_core}
use Rattle.heap_program.proofs.PrintRecovered.{fails_most, fails_none}
use Rattle.heap_program.proofs.Reopened.{outside_memory, reads_only, refused_memory}
use Rattle.heap_program.proofs.Statuses.{open_harm}
use Rattle.session_program.specs.declared.ending.Break.{Break}
use Rattle.session_program.proofs.Limits.{session_limits}
use Rattle.session_program.proofs.ServedWhole.{served_opened, served_none, broken_memory, broken_sound, broken_uncut}
use Rattle.heap_program.proofs.Unfaulted.{counts_on, keeps_counts, open_counts, not_disk}
use Rattle.heap_program.proofs.ImageLaws.{answers_failed, answers_opened}
use Rattle.heap_program.proofs.RunLaws.{restarts_none}
use Rattle.session_program.proofs.serving.serve_part.Goals as goal

pub returns-in-Ok-serve_all-clause-serves : goal.returns-in-Ok-serve_all-clause-serves
returns-in-Ok-serve_all-clause-serves g c =
    let some = opened_core g.D.Disk.tells (g.D.Disk.bytes c.args.disk) c.in-Ok.heap c.in-Ok.ensures.opens c.in-Ok.ensures.sound in
    let o = c.in-Ok-serve_all.ensures.core some.0 some.2 some.1.running in
    inr (record {
      part = o.part;
      rest = o.rest;
      input = o.input;
      is = record {
        first = some.0;
        opened = some.1.opened;
        image = some.1.image;
        heap = c.serve_all.new.heap;
        disk = c.close.ensures;
        result = Ok c.in-Ok-serve_all.next;
        status = refl;
        next = refl;
        serves = o.is;
        limits = session_limits g.S.Source.tells o.part o.rest c.serve_all.new.heap g.K.Sink.tells (g.K.Sink.written c.serve_all.new.sink) some.0 (g.K.Sink.written c.args.sink.now) (Ok c.in-Ok-serve_all.next) o.is some.1.running.reached some.1.nothing;
      };
    })

pub returns-in-Err-serve_all-clause-serves : goal.returns-in-Err-serve_all-clause-serves
returns-in-Err-serve_all-clause-serves g c =
    let some = opened_core g.D.Disk.tells (g.D.Disk.bytes c.args.disk) c.in-Ok.heap c.in-Ok.ensures.opens c.in-Ok.ensures.sound in
    let o = c.in-Err-serve_all.ensures.core some.0 some.2 some.1.running in
    inr (record {
      part = o.part;
      rest = o.rest;
      input = o.input;
      is = record {
        first = some.0;
        opened = some.1.opened;
        image = some.1.image;
        heap = c.serve_all.new.heap;
        disk = c.close-in-Err-serve_all.ensures;
        result = Err c.in-Err-serve_all.ended;
        status = c.break_status.ensures;
        next = refl;
        serves = o.is;
        limits = session_limits g.S.Source.tells o.part o.rest c.serve_all.new.heap g.K.Sink.tells (g.K.Sink.written c.serve_all.new.sink) some.0 (g.K.Sink.written c.args.sink.now) (Err c.in-Err-serve_all.ended) o.is some.1.running.reached some.1.nothing;
      };
    })

-- On a modelled disk with a heap.
pub returns-in-Err-clause-served : goal.returns-in-Err-clause-served
returns-in-Err-clause-served g c tells only stored =
    let d = g.D.Disk in
    let s = g.S.Source in
    let k = g.K.Sink in
    let e = c.in-Err.ensures in
    let shaped = shaped_image stored.legal in
    let passes = (e.image.shaped tells stored.heap shaped).passes in
    let outside = (e.image.shaped tells stored.heap shaped).error in
    let few = fails_most (stored_calls stored) (d.passed c.args.disk) (d.passed c.in-Err.disk) c.in-Err.e passes in
    let most = counted_mono few.0 (stored_calls stored) (d.passed c.args.disk) few.1 in
    let total = counted_mono few.0 (stored_calls stored + 0) (d.passed c.args.disk) (omega (arith, few.1)) in
    let stream = c.args.reader.now.held ++ s.left c.args.source.now in
    rw c.from.ensures (record {
      part = stream;
      rest = s.left c.args.source.now;
      input = (refl, refl);
      is = served_none d stored s.tells stream (s.left c.args.source.now) c.args.disk c.in-Err.disk c.in-Err.e k.tells (k.written c.args.sink.now) outside
          (stored_moments d stored c.args.disk c.in-Err.disk ((e.image.shaped tells stored.heap shaped).moments only))
          (opening_behind d (stored_core stored) stored.heap (d.bytes c.args.disk) c.args.disk c.in-Err.disk (stored_super d stored) ((e.image.readable tells stored.heap shaped.log.state (shaped_readable stored.heap (d.bytes c.args.disk) shaped)).moments only))
          (λ image left. stored_keeps d stored image ((e.image.shaped tells stored.heap shaped).crash only image left))
          (λ image since. g.met.D.Disk.only_now tells c.in-Err.disk image since) (e.image.disk.restarts tells)
          (λ none. fails_none (stored_calls stored) (d.passed c.args.disk) (d.passed c.in-Err.disk) c.in-Err.e (ap open_status none) passes)
          (λ other u. u (open_harm _ _ _ _ c.in-Err.e outside other e.image.disk.cause))
          (omega (arith, few.2, most)) (omega (arith, few.2, total))
          (λ refused. reads_only d c.args.disk c.in-Err.disk ((e.image.left_alone (refused_memory c.in-Err.e refused)).contents tells) only);
    })

pub returns-in-Ok-serve_all-clause-served : goal.returns-in-Ok-serve_all-clause-served
returns-in-Ok-serve_all-clause-served g c tells only stored =
    let d = g.D.Disk in
    let s = g.S.Source in
    let k = g.K.Sink in
    let first = stored_core stored in
    let shaped = shaped_image stored.legal in
    let running = stored_running d stored in
    let old = c.in-Ok.heap in
    let new = c.serve_all.new.heap in
    let e = c.in-Ok.ensures in
    let o = c.in-Ok-serve_all.ensures.plays tells stored.heap.super first (e.holds tells stored.heap stored.legal only stored.places stored.graph stored.found) running in
    let unharmed = λ (u : Unharmed d c.args.disk new.disk) (rose : DiskRose (d.faults old.disk) (d.stops old.disk) (d.faults new.disk) (d.stops new.disk)).
    u (disk_rose_since _ _ _ _ _ _ e.image.disk.cause.faults_kept e.image.disk.cause.stops_kept c.serve_all.ensures.disk.cause.faults_kept c.serve_all.ensures.disk.cause.stops_kept rose) in
    rw (c.close.ensures) (record {
      part = o.part;
      rest = o.rest;
      input = o.input;
      is = served_opened stored running s.tells o.part o.rest c.args.disk old new k.tells (k.written c.args.sink.now) (k.written c.serve_all.new.sink) (Ok c.in-Ok-serve_all.next) o.is
          tells (record { counts = λ disk t image le may. g.met.D.Disk.counts_now tells disk t image le may; now = λ disk image since. g.met.D.Disk.only_now tells disk image since; reads = λ disk. g.met.D.Disk.reads_an_image tells disk })
          (stored_moments d stored c.args.disk old.disk ((e.image.shaped tells stored.heap shaped).moments only))
          (opening_behind d first stored.heap (d.bytes c.args.disk) c.args.disk old.disk (stored_super d stored) ((e.image.readable tells stored.heap shaped.log.state (shaped_readable stored.heap (d.bytes c.args.disk) shaped)).moments only))
          (λ image left. stored_keeps d stored image ((e.image.shaped tells stored.heap shaped).crash only image left))
          (e.image.shaped tells stored.heap shaped).passes.ok (e.image.disk.restarts tells) (keeps_counts d c.args.disk old.disk tt e.image.disk) unharmed;
    })

pub returns-in-Err-serve_all-clause-served : goal.returns-in-Err-serve_all-clause-served
returns-in-Err-serve_all-clause-served g c tells only stored =
    let d = g.D.Disk in
    let s = g.S.Source in
    let k = g.K.Sink in
    let first = stored_core stored in
    let shaped = shaped_image stored.legal in
    let running = stored_running d stored in
    let old = c.in-Ok.heap in
    let new = c.serve_all.new.heap in
    let e = c.in-Ok.ensures in
    let o = c.in-Err-serve_all.ensures.plays tells stored.heap.super first (e.holds tells stored.heap stored.legal only stored.places stored.graph stored.found) running in
    let unharmed = λ (u : Unharmed d c.args.disk new.disk) (rose : DiskRose (d.faults old.disk) (d.stops old.disk) (d.faults new.disk) (d.stops new.disk)).
    u (disk_rose_since _ _ _ _ _ _ e.image.disk.cause.faults_kept e.image.disk.cause.stops_kept c.serve_all.ensures.disk.cause.faults_kept c.serve_all.ensures.disk.cause.stops_kept rose) in
    rw (c.close-in-Err-serve_all.ensures, c.break_status.ensures) (record {
      part = o.part;
      rest = o.rest;
      input = o.input;
      is = served_opened stored running s.tells o.part o.rest c.args.disk old new k.tells (k.written c.args.sink.now) (k.written c.serve_all.new.sink) (Err c.in-Err-serve_all.ended) o.is
          tells (record { counts = λ disk t image le may. g.met.D.Disk.counts_now tells disk t image le may; now = λ disk image since. g.met.D.Disk.only_now tells disk image since; reads = λ disk. g.met.D.Disk.reads_an_image tells disk })
          (stored_moments d stored c.args.disk old.disk ((e.image.shaped tells stored.heap shaped).moments only))
          (opening_behind d first stored.heap (d.bytes c.args.disk) c.args.disk old.disk (stored_super d stored) ((e.image.readable tells stored.heap shaped.log.state (shaped_readable stored.heap (d.bytes c.args.disk) shaped)).moments only))
          (λ image left. stored_keeps d stored image ((e.image.shaped tells stored.heap shaped).crash only image left))
          (e.image.shaped tells stored.heap shaped).passes.ok (e.image.disk.restarts tells) (keeps_counts d c.args.disk old.disk tt e.image.disk) unharmed;
    })

-- Without a fault it is done, or memory ran out.
pub returns-in-Err-clause-complete : goal.returns-in-Err-clause-complete
returns-in-Err-clause-complete g c tells only stored no_source no_sink no_disk =
    let e = c.in-Err.ensures in
    let outside = (e.image.shaped tells stored.heap (shaped_image stored.legal)).error in
    inr (c.from.ensures ∙ outside_memory c.in-Err.e outside (λ is. no_disk (open_harm _ _ _ _ c.in-Err.e outside (λ none. let same : status.NoMemory ≡ status.DiskFault = sym (ap open_status none) ∙ is in cc) e.image.disk.cause)))

pub returns-in-Err-serve_all-clause-complete : goal.returns-in-Err-serve_all-clause-complete
returns-in-Err-serve_all-clause-complete g c tells only stored no_source no_sink no_disk =
    let d = g.D.Disk in
    let old = c.in-Ok.heap in
    let new = c.serve_all.new.heap in
    let e = c.in-Ok.ensures in
    let all = c.in-Err-serve_all.ensures in
    let b = c.in-Err-serve_all.ended in
    let unharmed : Unharmed d c.args.disk new.disk = subst (λ x. Unharmed d c.args.disk x) c.close-in-Err-serve_all.ensures no_disk in
    let since = λ (rose : DiskRose (d.faults old.disk) (d.stops old.disk) (d.faults new.disk) (d.stops new.disk)).
    unharmed (disk_rose_since _ _ _ _ _ _ e.image.disk.cause.faults_kept e.image.disk.cause.stops_kept all.disk.cause.faults_kept all.disk.cause.stops_kept rose) in
    rw c.break_status.ensures (broken_memory b
    (λ is. no_source (all.source.cause (ap (λ (x : Break). Err x) is)))
    (λ is. no_sink (all.sink.cause (ap (λ (x : Break). Err x) is)))
    (λ is. since (rose_sum _ _ _ _ all.disk.cause.faults_kept all.disk.cause.stops_kept (all.disk.cause.failed is)))
    (λ is. since (rose_sum_stops _ _ _ _ all.disk.cause.faults_kept all.disk.cause.stops_kept (all.disk.cause.stopped is))))

-- no fault of the disk was ignored
pub returns-in-Err-clause-unfaulted : goal.returns-in-Err-clause-unfaulted
returns-in-Err-clause-unfaulted g c none = open_counts g.D.Disk c.args.disk c.in-Err.disk c.in-Err.e c.in-Err.ensures.image.disk (not_disk _ (subst IsFaultless c.from.ensures none))

pub returns-in-Ok-serve_all-clause-unfaulted : goal.returns-in-Ok-serve_all-clause-unfaulted
returns-in-Ok-serve_all-clause-unfaulted g c none =
    let d = g.D.Disk in
    rw c.close.ensures (counts_on d _ _ _ (keeps_counts d c.args.disk c.in-Ok.heap.disk tt c.in-Ok.ensures.image.disk) (c.in-Ok-serve_all.ensures.disk.still tt))

pub returns-in-Err-serve_all-clause-unfaulted : goal.returns-in-Err-serve_all-clause-unfaulted
returns-in-Err-serve_all-clause-unfaulted g c none =
    let d = g.D.Disk in
    let uncut = broken_uncut c.in-Err-serve_all.ended (subst IsFaultless c.break_status.ensures none) in
    rw c.close-in-Err-serve_all.ensures (counts_on d _ _ _ (keeps_counts d c.args.disk c.in-Ok.heap.disk tt c.in-Ok.ensures.image.disk) (c.in-Err-serve_all.ensures.disk.still uncut))

-- the image was not opened
pub returns-in-Err-clause-image : goal.returns-in-Err-clause-image
returns-in-Err-clause-image g c =
    rw c.from.ensures (answers_failed g.D.Disk c.args.disk c.in-Err.disk _ c.in-Err.e (refl, refl) c.in-Err.ensures.image (λ tells t image le may. g.met.D.Disk.counts_now tells c.in-Err.disk t image le may))

pub returns-in-Ok-serve_all-clause-image : goal.returns-in-Ok-serve_all-clause-image
returns-in-Ok-serve_all-clause-image g c =
    rw c.close.ensures (answers_opened g.D.Disk 0 c.args.disk _ _ _ tt (λ tells none. (c.in-Ok.ensures.image.not_heap tells none).told) (λ tells at damage. (c.in-Ok.ensures.image.damaged tells at damage).told)
    (λ tells. restarts_none 0 _ _ _ (λ done. refl) (c.serve_all.ensures.disk.restarts tells ∙ c.in-Ok.ensures.image.disk.restarts tells)))

pub returns-in-Err-serve_all-clause-image : goal.returns-in-Err-serve_all-clause-image
returns-in-Err-serve_all-clause-image g c =
    rw (c.close-in-Err-serve_all.ensures, c.break_status.ensures) (answers_opened g.D.Disk 0 c.args.disk _ _ _ (broken_sound c.in-Err-serve_all.ended) (λ tells none. (c.in-Ok.ensures.image.not_heap tells none).told) (λ tells at damage. (c.in-Ok.ensures.image.damaged tells at damage).told)
    (λ tells. restarts_none 0 _ _ _ (λ done. refl) (c.serve_all.ensures.disk.restarts tells ∙ c.in-Ok.ensures.image.disk.restarts tells)))
