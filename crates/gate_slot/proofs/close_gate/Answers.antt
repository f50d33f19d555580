use Rattle.std.proofs.Common.{IsTrue, ◌≡◌, Ok, Err, refl, arith, rules}
use Rattle.gate_slot.proofs.Images.{gate_was}
use Rattle.gate_slot.proofs.Passed.{ended, done, one_more, two_calls}
use Rattle.gate_slot.proofs.Runs.{Tells, narrowed, gate_read, gate_closed}
use Rattle.gate_slot.proofs.close_gate.Goals as goal
use Rattle.gate_slot.proofs.close_gate.Given.{Over}

abbrev disk : (g : Over) → IsTrue g.D.Disk.tells → Tells g.row.D.Denot
disk g told = record {
  bytes = g.D.Disk.bytes;
  extent = g.D.Disk.extent;
  moment = g.D.Disk.moment;
  left_since = g.D.Disk.left_since;
  may_leave = g.D.Disk.may_leave;
  only_now = g.met.D.Disk.only_now told;
  reads_an_image = g.met.D.Disk.reads_an_image told;
  same_size = g.met.D.Disk.same_size told;
}

pub returns-in_err-write-clause-moments : goal.returns-in_err-write-clause-moments
returns-in_err-write-clause-moments g c told =
    let d = disk g told in
    let read = gate_read d c.args.gate _ _ (c.read.ensures.crash told) (c.read.ensures.time told) in
    let written = gate_closed d c.args.gate _ _ _ (c.read.ensures.crash told) read (c.write.ensures.crash told) (c.write.ensures.time told) in
    written.run

pub returns-in_err-sync-clause-moments : goal.returns-in_err-sync-clause-moments
returns-in_err-sync-clause-moments g c told =
    let d = disk g told in
    let read = gate_read d c.args.gate _ _ (c.read.ensures.crash told) (c.read.ensures.time told) in
    let written = gate_closed d c.args.gate _ _ _ (c.read.ensures.crash told) read (c.write.ensures.crash told) (c.write.ensures.time told) in
    (narrowed d c.args.gate _ _ _ _ written (c.sync.ensures.crash told) (c.sync.ensures.time told)).run

pub returns-in_ok-sync-clause-moments : goal.returns-in_ok-sync-clause-moments
returns-in_ok-sync-clause-moments g c told =
    let d = disk g told in
    let read = gate_read d c.args.gate _ _ (c.read.ensures.crash told) (c.read.ensures.time told) in
    let written = gate_closed d c.args.gate _ _ _ (c.read.ensures.crash told) read (c.write.ensures.crash told) (c.write.ensures.time told) in
    (narrowed d c.args.gate _ _ _ _ written (c.sync.ensures.crash told) (c.sync.ensures.time told)).run

pub returns-in_err-write-clause-passes : goal.returns-in_err-write-clause-passes
returns-in_err-write-clause-passes g c told =
    let two = two_calls c.args.gate _ (gate_was c.args.gate 1 _ _ (c.in_ok-read.ensures.read told) c.if-byte-eq-OPEN.true) in
    let err : c.from_residual-in_err-write.result ≡ Err c.in_err-write.field-0.0 = search rules in
    rw two (ended 2 0 _ _ _ _ _ err (omega arith) (c.read.ensures.passed told) (c.in_err-write.ensures.passed told))

pub returns-in_err-sync-clause-passes : goal.returns-in_err-sync-clause-passes
returns-in_err-sync-clause-passes g c told =
    let two = two_calls c.args.gate _ (gate_was c.args.gate 1 _ _ (c.in_ok-read.ensures.read told) c.if-byte-eq-OPEN.true) in
    let so_far = one_more 0 _ _ _ (c.read.ensures.passed told) (c.in_ok-write.ensures.passed told) in
    let err : c.from_residual-in_err-sync.result ≡ Err c.in_err-sync.field-0.0 = search rules in
    rw two (ended 2 1 _ _ _ _ _ err (omega arith) so_far (c.in_err-sync.ensures.passed told))

pub returns-in_ok-sync-clause-passes : goal.returns-in_ok-sync-clause-passes
returns-in_ok-sync-clause-passes g c told =
    let two = two_calls c.args.gate _ (gate_was c.args.gate 1 _ _ (c.in_ok-read.ensures.read told) c.if-byte-eq-OPEN.true) in
    let so_far = one_more 0 _ _ _ (c.read.ensures.passed told) (c.in_ok-write.ensures.passed told) in
    rw two (done 2 1 _ _ _ (Ok tt) refl so_far (c.in_ok-sync.ensures.passed told))
