use Rattle.std.proofs.Common.{◌≡◌, ◌^◌, ◌<◌, List, [], Ok, Err, length, drop, refl, ap, sym, ◌∙◌, subst, arith, rules, length-take}
use Rattle.std.specs.Prelude.{IsTrue}
use Rattle.disk_model.specs.Disk.{part}
use Rattle.disk_model.proofs.KeepsLaws.{reads_none, reads_on}
use Rattle.std.specs.List.{AllByRecursion}
use Rattle.log_records.specs.declared.Record.{Record}
use Rattle.log_records.specs.Record.{IsRecord}
use Rattle.gated_log.specs.declared.reading.LogError.TheVariants.{BadBatch}
use Rattle.gated_log.specs.Log.{records_of}
use Rattle.gated_log.proofs.LogLaws.{holds_once, holds_or_breaks}
use Rattle.gated_log.specs.LogState.{Keeps}
use Rattle.gated_log.specs.Reader.{HasGiven}
use Rattle.gated_log.proofs.LogReading.{good_push}
use Rattle.gated_log.proofs.Reader.{log_still}
use Rattle.gated_log.proofs.log.Log.open.Goals as goal

pub loop-records-preserved : goal.loop-records-preserved
loop-records-preserved g c =
    let log = part (g.D.Disk.bytes c.args.disk.now) c.args.at c.args.room in
    let reader = c.loop-records.reader in
    let so_far = c.loop-records.invariant in
    let on = c.in_ok-record.ensures in
    let is : IsTrue g.D.Disk.tells → log ≡ part (g.D.Disk.bytes c.loop-records.disk) reader.at reader.room = λ told. log_still log (g.D.Disk.bytes c.args.disk.now) (g.D.Disk.bytes c.loop-records.disk) c.args.at c.args.room reader.at reader.room refl (so_far.disk.contents told).bytes so_far.place so_far.same_room in
    let good = rw c.in-Some.is at on.good in
    let lsn = rw c.in-Some.is at on.lsn in
    let given = rw c.in-Some.is at (on.given log c.loop-records.records.items is so_far.given) in
    record {
      place = on.place ∙ so_far.place;
      same_room = on.same_room ∙ so_far.same_room;
      good = rw c.in_ok-push.ensures.items (good_push _ _ so_far.good good);
      few = omega (arith, c.in_ok-push.ensures.len, so_far.few, lsn);
      given = subst (λ (l : List Record). HasGiven g.D.Disk.tells log c.next.new.self l) (sym c.in_ok-push.ensures.items) given;
      disk = reads_on g.D.Disk _ _ _ _ tt _ refl so_far.disk on.disk;
    }

pub loop-records-init : goal.loop-records-init
loop-records-init g c =
    let log = part (g.D.Disk.bytes c.args.disk.now) c.args.at c.args.room in
    let at_first = c.in_ok-reader.ensures in
    let items = c.new-records.ensures.items in
    record {
      place = at_first.place;
      same_room = at_first.same_room;
      good = subst (λ (l : List Record). AllByRecursion IsRecord l) (sym items) tt;
      few = omega (arith, c.new-records.ensures.len, (at_first.none g.D.Disk.tells log).count);
      given = subst (λ (l : List Record). HasGiven g.D.Disk.tells log c.in_ok-reader.reader l) (sym items) (at_first.given g.D.Disk.tells log);
      disk = reads_none g.D.Disk c.args.disk.now tt (λ told. g.met.D.Disk.only_now told c.args.disk.now);
    }

pub into_log-requires : goal.into_log-requires
into_log-requires g c =
    let log = part (g.D.Disk.bytes c.args.disk.now) c.args.at c.args.room in
    let reader = c.loop-records.reader in
    let so_far = c.loop-records.invariant in
    let is : IsTrue g.D.Disk.tells → log ≡ part (g.D.Disk.bytes c.loop-records.disk) reader.at reader.room = λ told. log_still log (g.D.Disk.bytes c.args.disk.now) (g.D.Disk.bytes c.loop-records.disk) c.args.at c.args.room reader.at reader.room refl (so_far.disk.contents told).bytes so_far.place so_far.same_room in
    (c.next.ensures.all log c.loop-records.records.items is so_far.given (c.in_ok-record.was ∙ ap Ok c.in_default.is)).border

pub returns-clause-found : goal.returns-clause-found
returns-clause-found g c =
    let log = part (g.D.Disk.bytes c.args.disk.now) c.args.at c.args.room in
    let reader = c.loop-records.reader in
    let so_far = c.loop-records.invariant in
    let is : IsTrue g.D.Disk.tells → log ≡ part (g.D.Disk.bytes c.loop-records.disk) reader.at reader.room = λ told. log_still log (g.D.Disk.bytes c.args.disk.now) (g.D.Disk.bytes c.loop-records.disk) c.args.at c.args.room reader.at reader.room refl (so_far.disk.contents told).bytes so_far.place so_far.same_room in
    let all = c.next.ensures.all log c.loop-records.records.items is so_far.given (c.in_ok-record.was ∙ ap Ok c.in_default.is) in
    (all.batches, c.into_log.ensures.keeps g.D.Disk.tells log all.batches all.read, all.are, all.holds)

pub returns-clause-held : goal.returns-clause-held
returns-clause-held g c told batches holds good =
    let log = part (g.D.Disk.bytes c.args.disk.now) c.args.at c.args.room in
    let reader = c.loop-records.reader in
    let so_far = c.loop-records.invariant in
    let is : IsTrue g.D.Disk.tells → log ≡ part (g.D.Disk.bytes c.loop-records.disk) reader.at reader.room = λ told. log_still log (g.D.Disk.bytes c.args.disk.now) (g.D.Disk.bytes c.loop-records.disk) c.args.at c.args.room reader.at reader.room refl (so_far.disk.contents told).bytes so_far.place so_far.same_room in
    let all = c.next.ensures.all log c.loop-records.records.items is so_far.given (c.in_ok-record.was ∙ ap Ok c.in_default.is) in
    let short : length log < 2 ^ 32 = omega (arith, length-take c.args.room (drop c.args.at (g.D.Disk.bytes c.args.disk.now)), c.ranges.room.fits) in
    let one : all.batches ≡ batches = holds_once log short all.batches batches all.read.good good (all.holds told) holds in
    (subst (λ (l : List (List Record)). Keeps c.into_log.result l []) one (c.into_log.ensures.keeps g.D.Disk.tells log all.batches all.read), all.are ∙ ap (λ (l : List (List Record)). records_of l) one)

pub returns-clause-broken : goal.returns-clause-broken
returns-clause-broken g c told offset breaks =
    let log = part (g.D.Disk.bytes c.args.disk.now) c.args.at c.args.room in
    let reader = c.loop-records.reader in
    let so_far = c.loop-records.invariant in
    let is : IsTrue g.D.Disk.tells → log ≡ part (g.D.Disk.bytes c.loop-records.disk) reader.at reader.room = λ told. log_still log (g.D.Disk.bytes c.args.disk.now) (g.D.Disk.bytes c.loop-records.disk) c.args.at c.args.room reader.at reader.room refl (so_far.disk.contents told).bytes so_far.place so_far.same_room in
    let all = c.next.ensures.all log c.loop-records.records.items is so_far.given (c.in_ok-record.was ∙ ap Ok c.in_default.is) in
    let short : length log < 2 ^ 32 = omega (arith, length-take c.args.room (drop c.args.at (g.D.Disk.bytes c.args.disk.now)), c.ranges.room.fits) in
    absurd (holds_or_breaks log short all.batches offset all.read.good (all.holds told) breaks)

pub returns-in_err-record-clause-bad : goal.returns-in_err-record-clause-bad
returns-in_err-record-clause-bad g c told offset same =
    let log = part (g.D.Disk.bytes c.args.disk.now) c.args.at c.args.room in
    let reader = c.loop-records.reader in
    let so_far = c.loop-records.invariant in
    let is = log_still log (g.D.Disk.bytes c.args.disk.now) (g.D.Disk.bytes c.loop-records.disk) c.args.at c.args.room reader.at reader.room refl (so_far.disk.contents told).bytes so_far.place so_far.same_room in
    let err : c.from_residual-in_err-record.result ≡ Err c.in_err-record.field-0.0 = search rules in
    let bad : c.in_err-record.field-0.0 ≡ BadBatch offset = cc (err, same) in
    c.next.ensures.bad told log c.loop-records.records.items is so_far.given offset (c.in_err-record.was ∙ ap Err bad)

pub returns-in_err-record-clause-whole : goal.returns-in_err-record-clause-whole
returns-in_err-record-clause-whole g c told batches holds good offset same =
    let log = part (g.D.Disk.bytes c.args.disk.now) c.args.at c.args.room in
    let short : length log < 2 ^ 32 = omega (arith, length-take c.args.room (drop c.args.at (g.D.Disk.bytes c.args.disk.now)), c.ranges.room.fits) in
    holds_or_breaks log short batches offset good holds (returns-in_err-record-clause-bad g c told offset same)
