use Rattle.std.proofs.Common.{◌≡◌, List, [], ◌∷◌, ◌++◌, Ok, Err, length, length-append, Result, refl, sym, ap, ◌∙◌, subst, arith, rules}
use Rattle.std.specs.Prelude.{IsTrue}
use Rattle.disk_model.specs.declared.disk.DiskError.{DiskError}
use Rattle.disk_model.specs.Disk.{part}
use Rattle.disk_model.specs.Keeps.{OnlyReads}
use Rattle.disk_model.proofs.KeepsLaws.{reads_none, reads_on}
use Rattle.image_plan.specs.Plan.{log_offset}
use Rattle.gated_log.specs.LogCause.{log_device_error}
use Rattle.gated_log.specs.Reader.{reader_place, reader_room, reader_lsn}
use Rattle.log_records.specs.declared.Record.{Record}
use Rattle.heap_recovery.specs.declared.error.RecoverError.{RecoverError}
use Rattle.heap_recovery.specs.declared.error.RecoverError.TheVariants.{NoMemory}
use Rattle.heap_recovery.specs.Recovered.{log_error}
use Rattle.heap_recovery.specs.Replayed.{HasReplayed}
use Rattle.heap_recovery.proofs.LogReplay.{log_still, log_told_of, log_told_device}
use Rattle.heap_recovery.proofs.read_image.replay_log.Goals as goal

pub loop-reader-init : goal.loop-reader-init
loop-reader-init g c =
    let log = part (g.D.Disk.bytes c.args.disk.now) log_offset c.args.of.log_bytes in
    let first = c.in_ok-reader.ensures in
    record {
      place = first.place ∙ c.log_at.ensures;
      same_room = first.same_room;
      on = record { given = []; read = first.given g.D.Disk.tells log; count = omega (arith, (first.none g.D.Disk.tells log).count); replayed = λ stored is. is };
      store = refl;
      disk = reads_none g.D.Disk c.args.disk.now tt (λ told. g.met.D.Disk.only_now told c.args.disk.now);
    }

pub loop-reader-preserved : goal.loop-reader-preserved
loop-reader-preserved g c =
    let log = part (g.D.Disk.bytes c.args.disk.now) log_offset c.args.of.log_bytes in
    let reader = c.loop-reader.reader in
    let so_far = c.loop-reader.invariant in
    let on = c.in_ok-record.ensures in
    let is : IsTrue g.D.Disk.tells → log ≡ part (g.D.Disk.bytes c.loop-reader.disk) (reader_place reader) (reader_room reader) = λ told. log_still log (g.D.Disk.bytes c.args.disk.now) (g.D.Disk.bytes c.loop-reader.disk) log_offset c.args.of.log_bytes (reader_place reader) (reader_room reader) refl (so_far.disk.contents told).bytes so_far.place so_far.same_room in
    let lsn = rw c.in-Some.is at on.lsn in
    let given = rw c.in-Some.is at (on.given log so_far.on.given is so_far.on.read) in
    let count : length (so_far.on.given ++ c.in-Some.record ∷ []) ≡ reader_lsn c.next.new.self = omega (arith, length-append so_far.on.given (c.in-Some.record ∷ []), so_far.on.count, lsn) in
    record {
      place = on.place ∙ so_far.place;
      same_room = on.same_room ∙ so_far.same_room;
      on = record {
        given = so_far.on.given ++ c.in-Some.record ∷ [];
        read = given;
        count = count;
        replayed = λ stored none. c.in_ok-take.ensures.on c.args.of stored so_far.on.given (omega (arith, c.lsn.ensures, lsn, so_far.on.count)) (so_far.on.replayed stored none);
      };
      store = c.take.ensures.store ∙ so_far.store;
      disk = reads_on g.D.Disk _ _ _ _ tt _ refl so_far.disk on.disk;
    }

-- A record that owns words is dropped, whichever kind it is of.

pub loop-reader-preserved-in_ok-take : goal.loop-reader-preserved-in_ok-take
loop-reader-preserved-in_ok-take g c =
    let log = part (g.D.Disk.bytes c.args.disk.now) log_offset c.args.of.log_bytes in
    let reader = c.loop-reader.reader in
    let so_far = c.loop-reader.invariant in
    let on = c.in_ok-record.ensures in
    let is : IsTrue g.D.Disk.tells → log ≡ part (g.D.Disk.bytes c.loop-reader.disk) (reader_place reader) (reader_room reader) = λ told. log_still log (g.D.Disk.bytes c.args.disk.now) (g.D.Disk.bytes c.loop-reader.disk) log_offset c.args.of.log_bytes (reader_place reader) (reader_room reader) refl (so_far.disk.contents told).bytes so_far.place so_far.same_room in
    let lsn = rw c.in-Some.is at on.lsn in
    let given = rw c.in-Some.is at (on.given log so_far.on.given is so_far.on.read) in
    let count : length (so_far.on.given ++ c.in-Some.record ∷ []) ≡ reader_lsn c.next.new.self = omega (arith, length-append so_far.on.given (c.in-Some.record ∷ []), so_far.on.count, lsn) in
    record {
      place = on.place ∙ so_far.place;
      same_room = on.same_room ∙ so_far.same_room;
      on = record {
        given = so_far.on.given ++ c.in-Some.record ∷ [];
        read = given;
        count = count;
        replayed = λ stored none. c.in_ok-take.ensures.on c.args.of stored so_far.on.given (omega (arith, c.lsn.ensures, lsn, so_far.on.count)) (so_far.on.replayed stored none);
      };
      store = c.take.ensures.store ∙ so_far.store;
      disk = reads_on g.D.Disk _ _ _ _ tt _ refl so_far.disk on.disk;
    }

pub loop-reader-preserved-in_ok-take-2 : goal.loop-reader-preserved-in_ok-take-2
loop-reader-preserved-in_ok-take-2 g c =
    let log = part (g.D.Disk.bytes c.args.disk.now) log_offset c.args.of.log_bytes in
    let reader = c.loop-reader.reader in
    let so_far = c.loop-reader.invariant in
    let on = c.in_ok-record.ensures in
    let is : IsTrue g.D.Disk.tells → log ≡ part (g.D.Disk.bytes c.loop-reader.disk) (reader_place reader) (reader_room reader) = λ told. log_still log (g.D.Disk.bytes c.args.disk.now) (g.D.Disk.bytes c.loop-reader.disk) log_offset c.args.of.log_bytes (reader_place reader) (reader_room reader) refl (so_far.disk.contents told).bytes so_far.place so_far.same_room in
    let lsn = rw c.in-Some.is at on.lsn in
    let given = rw c.in-Some.is at (on.given log so_far.on.given is so_far.on.read) in
    let count : length (so_far.on.given ++ c.in-Some.record ∷ []) ≡ reader_lsn c.next.new.self = omega (arith, length-append so_far.on.given (c.in-Some.record ∷ []), so_far.on.count, lsn) in
    record {
      place = on.place ∙ so_far.place;
      same_room = on.same_room ∙ so_far.same_room;
      on = record {
        given = so_far.on.given ++ c.in-Some.record ∷ [];
        read = given;
        count = count;
        replayed = λ stored none. c.in_ok-take.ensures.on c.args.of stored so_far.on.given (omega (arith, c.lsn.ensures, lsn, so_far.on.count)) (so_far.on.replayed stored none);
      };
      store = c.take.ensures.store ∙ so_far.store;
      disk = reads_on g.D.Disk _ _ _ _ tt _ refl so_far.disk on.disk;
    }

pub loop-reader-preserved-in_ok-take-3 : goal.loop-reader-preserved-in_ok-take-3
loop-reader-preserved-in_ok-take-3 g c =
    let log = part (g.D.Disk.bytes c.args.disk.now) log_offset c.args.of.log_bytes in
    let reader = c.loop-reader.reader in
    let so_far = c.loop-reader.invariant in
    let on = c.in_ok-record.ensures in
    let is : IsTrue g.D.Disk.tells → log ≡ part (g.D.Disk.bytes c.loop-reader.disk) (reader_place reader) (reader_room reader) = λ told. log_still log (g.D.Disk.bytes c.args.disk.now) (g.D.Disk.bytes c.loop-reader.disk) log_offset c.args.of.log_bytes (reader_place reader) (reader_room reader) refl (so_far.disk.contents told).bytes so_far.place so_far.same_room in
    let lsn = rw c.in-Some.is at on.lsn in
    let given = rw c.in-Some.is at (on.given log so_far.on.given is so_far.on.read) in
    let count : length (so_far.on.given ++ c.in-Some.record ∷ []) ≡ reader_lsn c.next.new.self = omega (arith, length-append so_far.on.given (c.in-Some.record ∷ []), so_far.on.count, lsn) in
    record {
      place = on.place ∙ so_far.place;
      same_room = on.same_room ∙ so_far.same_room;
      on = record {
        given = so_far.on.given ++ c.in-Some.record ∷ [];
        read = given;
        count = count;
        replayed = λ stored none. c.in_ok-take.ensures.on c.args.of stored so_far.on.given (omega (arith, c.lsn.ensures, lsn, so_far.on.count)) (so_far.on.replayed stored none);
      };
      store = c.take.ensures.store ∙ so_far.store;
      disk = reads_on g.D.Disk _ _ _ _ tt _ refl so_far.disk on.disk;
    }

pub loop-reader-preserved-in_ok-take-4 : goal.loop-reader-preserved-in_ok-take-4
loop-reader-preserved-in_ok-take-4 g c =
    let log = part (g.D.Disk.bytes c.args.disk.now) log_offset c.args.of.log_bytes in
    let reader = c.loop-reader.reader in
    let so_far = c.loop-reader.invariant in
    let on = c.in_ok-record.ensures in
    let is : IsTrue g.D.Disk.tells → log ≡ part (g.D.Disk.bytes c.loop-reader.disk) (reader_place reader) (reader_room reader) = λ told. log_still log (g.D.Disk.bytes c.args.disk.now) (g.D.Disk.bytes c.loop-reader.disk) log_offset c.args.of.log_bytes (reader_place reader) (reader_room reader) refl (so_far.disk.contents told).bytes so_far.place so_far.same_room in
    let lsn = rw c.in-Some.is at on.lsn in
    let given = rw c.in-Some.is at (on.given log so_far.on.given is so_far.on.read) in
    let count : length (so_far.on.given ++ c.in-Some.record ∷ []) ≡ reader_lsn c.next.new.self = omega (arith, length-append so_far.on.given (c.in-Some.record ∷ []), so_far.on.count, lsn) in
    record {
      place = on.place ∙ so_far.place;
      same_room = on.same_room ∙ so_far.same_room;
      on = record {
        given = so_far.on.given ++ c.in-Some.record ∷ [];
        read = given;
        count = count;
        replayed = λ stored none. c.in_ok-take.ensures.on c.args.of stored so_far.on.given (omega (arith, c.lsn.ensures, lsn, so_far.on.count)) (so_far.on.replayed stored none);
      };
      store = c.take.ensures.store ∙ so_far.store;
      disk = reads_on g.D.Disk _ _ _ _ tt _ refl so_far.disk on.disk;
    }

pub take-requires : goal.take-requires
take-requires g c =
    let so_far = c.loop-reader.invariant in
    let on = c.in_ok-record.ensures in
    let lsn = rw c.in-Some.is at on.lsn in
    let none = c.requires.none in
    let bounds = (so_far.on.replayed none.0 none.1).bounds in
    let small = c.requires.good.small_log in
    record { commits = omega (arith, bounds.few, so_far.on.count, lsn, on.few, so_far.same_room, small); room = omega (arith, bounds.room, so_far.on.count, lsn, on.few, so_far.same_room, small) }

pub into_log-requires : goal.into_log-requires
into_log-requires g c =
    let log = part (g.D.Disk.bytes c.args.disk.now) log_offset c.args.of.log_bytes in
    let reader = c.loop-reader.reader in
    let so_far = c.loop-reader.invariant in
    let is : IsTrue g.D.Disk.tells → log ≡ part (g.D.Disk.bytes c.loop-reader.disk) (reader_place reader) (reader_room reader) = λ told. log_still log (g.D.Disk.bytes c.args.disk.now) (g.D.Disk.bytes c.loop-reader.disk) log_offset c.args.of.log_bytes (reader_place reader) (reader_room reader) refl (so_far.disk.contents told).bytes so_far.place so_far.same_room in
    (c.next.ensures.all log so_far.on.given is so_far.on.read (c.in_ok-record.was ∙ ap Ok c.in_default.is)).border

pub returns-clause-found : goal.returns-clause-found
returns-clause-found g c stored none =
    let log = part (g.D.Disk.bytes c.args.disk.now) log_offset c.args.of.log_bytes in
    let reader = c.loop-reader.reader in
    let so_far = c.loop-reader.invariant in
    let on = c.in_ok-record.ensures in
    let is : IsTrue g.D.Disk.tells → log ≡ part (g.D.Disk.bytes c.loop-reader.disk) (reader_place reader) (reader_room reader) = λ told. log_still log (g.D.Disk.bytes c.args.disk.now) (g.D.Disk.bytes c.loop-reader.disk) log_offset c.args.of.log_bytes (reader_place reader) (reader_room reader) refl (so_far.disk.contents told).bytes so_far.place so_far.same_room in
    let all = c.next.ensures.all log so_far.on.given is so_far.on.read (c.in_ok-record.was ∙ ap Ok c.in_default.is) in (
      all.batches,
      record {
        limits = c.requires.good;
        good = all.read.good;
        keeps = c.into_log.ensures.keeps g.D.Disk.tells log all.batches all.read;
        place = c.into_log.ensures.place ∙ on.place ∙ so_far.place;
        room = c.into_log.ensures.same_room ∙ on.same_room ∙ so_far.same_room;
        replayed = subst (λ (rs : List Record). HasReplayed c.args.of stored rs c.loop-reader.replay) all.are (so_far.on.replayed stored none);
      },
      all.holds,
    )

pub returns-clause-few : goal.returns-clause-few
returns-clause-few g c =
    let log = part (g.D.Disk.bytes c.args.disk.now) log_offset c.args.of.log_bytes in
    let reader = c.loop-reader.reader in
    let so_far = c.loop-reader.invariant in
    let is : IsTrue g.D.Disk.tells → log ≡ part (g.D.Disk.bytes c.loop-reader.disk) (reader_place reader) (reader_room reader) = λ told. log_still log (g.D.Disk.bytes c.args.disk.now) (g.D.Disk.bytes c.loop-reader.disk) log_offset c.args.of.log_bytes (reader_place reader) (reader_room reader) refl (so_far.disk.contents told).bytes so_far.place so_far.same_room in
    let all = c.next.ensures.all log so_far.on.given is so_far.on.read (c.in_ok-record.was ∙ ap Ok c.in_default.is) in
    omega (arith, (c.into_log.ensures.keeps g.D.Disk.tells log all.batches all.read).count, all.read.count, c.in_ok-record.ensures.few, so_far.same_room, c.requires.good.small_log)

pub returns-in_err-record-clause-refused : goal.returns-in_err-record-clause-refused
returns-in_err-record-clause-refused g c told =
    let log = part (g.D.Disk.bytes c.args.disk.now) log_offset c.args.of.log_bytes in
    let reader = c.loop-reader.reader in
    let so_far = c.loop-reader.invariant in
    let is = log_still log (g.D.Disk.bytes c.args.disk.now) (g.D.Disk.bytes c.loop-reader.disk) log_offset c.args.of.log_bytes (reader_place reader) (reader_room reader) refl (so_far.disk.contents told).bytes so_far.place so_far.same_room in
    let e = c.in_err-record.field-0.0 in
    let err : c.from_residual-in_err-record.result ≡ Err (log_error e) = search rules in
    rw err (log_told_of log e (λ offset same. c.next.ensures.bad told log so_far.on.given is so_far.on.read offset (c.in_err-record.was ∙ ap Err same)))

pub returns-in_err-take-clause-disk : goal.returns-in_err-take-clause-disk
returns-in_err-take-clause-disk g c =
    let err : c.from_residual-in_err-take.result ≡ Err c.in_err-take.field-0.0 = search rules in
    let told : c.from_residual-in_err-take.result ≡ Err NoMemory = err ∙ ap (λ (e : RecoverError). Err e) c.in_err-take.ensures.error in
    rw told (reads_on g.D.Disk _ _ _ _ tt _ refl c.loop-reader.invariant.disk c.in_ok-record.ensures.disk)

pub returns-in_err-record-clause-disk : goal.returns-in_err-record-clause-disk
returns-in_err-record-clause-disk g c =
    let e = c.in_err-record.field-0.0 in
    let old = c.args.disk.now in
    let new = c.next.new.disk in
    let err : c.from_residual-in_err-record.result ≡ Err (log_error e) = search rules in
    let read = reads_on g.D.Disk old c.loop-reader.disk new (Ok tt) tt (log_device_error e) refl c.loop-reader.invariant.disk c.in_err-record.ensures.disk in
    rw err (let P : Result (Unit {0}) DiskError → Type 0 = λ r. OnlyReads g.D.Disk old new r in subst P (sym (log_told_device e)) read)
