use Rattle.std.proofs.Common.{IsTrue, ◌≡◌, Err, refl, arith, rules}
use Rattle.gate_slot.proofs.Passed.{ended, done, one_more}
use Rattle.gate_slot.proofs.Runs.{Tells, narrowed, bytes_written, gate_opened}
use Rattle.gate_slot.proofs.fill_and_open.Goals as goal
use Rattle.gate_slot.proofs.fill_and_open.Given.{Over}

abbrev disk : (g : Over) → IsTrue g.D.Disk.tells → Tells g.row.D.Denot
disk g told = record {
  bytes = g.D.Disk.bytes;
  extent = g.D.Disk.extent;
  moment = g.D.Disk.moment;
  left_since = g.D.Disk.left_since;
  may_leave = g.D.Disk.may_leave;
  only_now = g.met.D.Disk.only_now told;
  reads_an_image = g.met.D.Disk.reads_an_image told;
  same_size = g.met.D.Disk.same_size told;
}

pub returns-in_err-write-clause-moments : goal.returns-in_err-write-clause-moments
returns-in_err-write-clause-moments g c told shut =
    let d = disk g told in
    (bytes_written d c.args.gate c.args.at c.args.bytes.now c.requires.apart _ _ shut (c.write.ensures.crash told) (c.write.ensures.time told)).run

pub returns-in_err-sync-clause-moments : goal.returns-in_err-sync-clause-moments
returns-in_err-sync-clause-moments g c told shut =
    let d = disk g told in
    let behind = bytes_written d c.args.gate c.args.at c.args.bytes.now c.requires.apart _ _ shut (c.write.ensures.crash told) (c.write.ensures.time told) in
    (narrowed d c.args.gate _ _ _ _ behind (c.sync.ensures.crash told) (c.sync.ensures.time told)).run

pub returns-in_err-write-2-clause-moments : goal.returns-in_err-write-2-clause-moments
returns-in_err-write-2-clause-moments g c told shut =
    let d = disk g told in
    let behind = bytes_written d c.args.gate c.args.at c.args.bytes.now c.requires.apart _ _ shut (c.write.ensures.crash told) (c.write.ensures.time told) in
    let kept = narrowed d c.args.gate _ _ _ _ behind (c.sync.ensures.crash told) (c.sync.ensures.time told) in
    (gate_opened d c.args.gate c.args.at c.args.bytes.now c.requires.apart _ _ _ _ c.requires.gate_inside c.requires.bytes_inside kept (c.in_ok-write.ensures.written told) (c.in_ok-sync.ensures.durable told) (c.write-2.ensures.crash told) (c.write-2.ensures.time told)).run

pub returns-clause-moments : goal.returns-clause-moments
returns-clause-moments g c told shut =
    let d = disk g told in
    let behind = bytes_written d c.args.gate c.args.at c.args.bytes.now c.requires.apart _ _ shut (c.write.ensures.crash told) (c.write.ensures.time told) in
    let kept = narrowed d c.args.gate _ _ _ _ behind (c.sync.ensures.crash told) (c.sync.ensures.time told) in
    let opened = gate_opened d c.args.gate c.args.at c.args.bytes.now c.requires.apart _ _ _ _ c.requires.gate_inside c.requires.bytes_inside kept (c.in_ok-write.ensures.written told) (c.in_ok-sync.ensures.durable told) (c.write-2.ensures.crash told) (c.write-2.ensures.time told) in
    (narrowed d c.args.gate _ _ _ _ opened (c.sync-2.ensures.crash told) (c.sync-2.ensures.time told)).run

pub returns-in_err-sync-clause-passes : goal.returns-in_err-sync-clause-passes
returns-in_err-sync-clause-passes g c told =
    let err : c.from_residual-in_err-sync.result ≡ Err c.in_err-sync.field-0.0 = search rules in
    ended 4 1 _ _ _ _ _ err (omega arith) (c.in_ok-write.ensures.passed told) (c.in_err-sync.ensures.passed told)

pub returns-in_err-write-2-clause-passes : goal.returns-in_err-write-2-clause-passes
returns-in_err-write-2-clause-passes g c told =
    let err : c.from_residual-in_err-write-2.result ≡ Err c.in_err-write-2.field-0.0 = search rules in
    let so_far = one_more 1 (g.D.Disk.passed c.args.disk.now) _ _ (c.in_ok-write.ensures.passed told) (c.in_ok-sync.ensures.passed told) in
    ended 4 2 _ _ _ _ _ err (omega arith) so_far (c.in_err-write-2.ensures.passed told)

pub returns-clause-passes : goal.returns-clause-passes
returns-clause-passes g c told =
    let synced = one_more 1 (g.D.Disk.passed c.args.disk.now) _ _ (c.in_ok-write.ensures.passed told) (c.in_ok-sync.ensures.passed told) in
    let so_far = one_more 2 (g.D.Disk.passed c.args.disk.now) _ _ synced (c.in_ok-write-2.ensures.passed told) in
    done 4 3 _ _ _ _ refl so_far (c.sync-2.ensures.passed told)
