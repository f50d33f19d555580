use Rattle.std.proofs.Common.{◌≡◌, List, ◌++◌, Err, refl, ap, sym, ◌∙◌, subst, arith, rules}
use Rattle.std.specs.Prelude.{IsTrue}
use Rattle.disk_model.specs.Disk.{part}
use Rattle.disk_model.proofs.KeepsLaws.{reads_on}
use Rattle.log_records.specs.declared.Record.{Record}
use Rattle.gated_log.specs.declared.reading.LogError.TheVariants.{BadBatch}
use Rattle.gated_log.specs.Log.{records_of}
use Rattle.gated_log.specs.Reader.{HasRead}
use Rattle.gated_log.proofs.Reader.{log_still, HasPassed, begun_on, given_of, given_on, all_given}
use Rattle.gated_log.proofs.reading.LogReader.next.Goals as goal

pub loop-self-preserved : goal.loop-self-preserved
loop-self-preserved g c =
    let self = c.loop-self.self in
    let new = c.begin_batch.new.self in
    let so_far = c.loop-self.invariant in
    let on = c.in_ok-begin_batch.ensures in
    record {
      place = on.place ∙ so_far.place;
      same_room = on.same_room ∙ so_far.same_room;
      lsn = on.lsn ∙ so_far.lsn;
      rest = omega (arith, on.on (rw c.if-not-branch.false refl), so_far.rest);
      read = λ log batches begun is read.
          let passed = so_far.read log batches begun is read in
          let gate = passed.read.at_gate c.loop-self-test.true in
          let here : IsTrue g.D.Disk.tells → log ≡ part (g.D.Disk.bytes c.loop-self.disk) self.at self.room = λ told. log_still log (g.D.Disk.bytes c.args.disk.now) (g.D.Disk.bytes c.loop-self.disk) c.args.self.now.at c.args.self.now.room self.at self.room (is told) (so_far.disk.contents told).bytes so_far.place so_far.same_room in
          let read' = subst (λ (l : List Record). HasRead g.D.Disk.tells log self passed.passed l) gate.none passed.read in
          subst (λ (l : List Record). HasPassed g.D.Disk.tells log new batches l) (sym gate.none) (begun_on g.D.Disk.tells log new batches passed.passed passed.same (on.begun log passed.passed here read' (rw c.if-not-branch.false refl)));
      disk = reads_on g.D.Disk _ _ _ _ tt _ refl so_far.disk on.disk;
    }

pub returns-in_err-begin_batch-clause-bad : goal.returns-in_err-begin_batch-clause-bad
returns-in_err-begin_batch-clause-bad g c told log given is has offset same =
    let self = c.loop-self.self in
    let so_far = c.loop-self.invariant in
    let err : c.from_residual.result ≡ Err c.in_err-begin_batch.field-0.0 = search rules in
    let bad : c.in_err-begin_batch.field-0.0 ≡ BadBatch offset = cc (err, same) in
    let passed = so_far.read log has.batches has.begun (λ _. is) has.read in
    let gate = passed.read.at_gate c.loop-self-test.true in
    let here = log_still log (g.D.Disk.bytes c.args.disk.now) (g.D.Disk.bytes c.loop-self.disk) c.args.self.now.at c.args.self.now.room self.at self.room is (so_far.disk.contents told).bytes so_far.place so_far.same_room in
    let read' = subst (λ (l : List Record). HasRead g.D.Disk.tells log self passed.passed l) gate.none passed.read in
    c.begin_batch.ensures.bad told log passed.passed here read' offset (c.in_err-begin_batch.was ∙ ap Err bad)

pub returns-then-not-branch-clause-all : goal.returns-then-not-branch-clause-all
returns-then-not-branch-clause-all g c log given is has nothing =
    let self = c.loop-self.self in
    let so_far = c.loop-self.invariant in
    let on = c.in_ok-begin_batch.ensures in
    let passed = so_far.read log has.batches has.begun is has.read in
    let gate = passed.read.at_gate c.loop-self-test.true in
    let here : IsTrue g.D.Disk.tells → log ≡ part (g.D.Disk.bytes c.loop-self.disk) self.at self.room = λ told. log_still log (g.D.Disk.bytes c.args.disk.now) (g.D.Disk.bytes c.loop-self.disk) c.args.self.now.at c.args.self.now.room self.at self.room (is told) (so_far.disk.contents told).bytes so_far.place so_far.same_room in
    let read' = subst (λ (l : List Record). HasRead g.D.Disk.tells log self passed.passed l) gate.none passed.read in
    let ended = on.ended log passed.passed here read' (rw c.if-not-branch.true refl) in
    all_given g.D.Disk.tells log c.begin_batch.new.self has.batches passed.passed given (has.are ∙ ap (λ (l : List Record). records_of has.batches ++ l) gate.none) passed.same (on.border (rw c.if-not-branch.true refl)) ended.0 ended.1

pub returns-in_err-take_record-clause-bad : goal.returns-in_err-take_record-clause-bad
returns-in_err-take_record-clause-bad g c told log given is has offset same =
    let self = c.loop-self.self in
    let so_far = c.loop-self.invariant in
    let err : c.from_residual-in_err-take_record.result ≡ Err c.in_err-take_record.field-0.0 = search rules in
    let bad : c.in_err-take_record.field-0.0 ≡ BadBatch offset = cc (err, same) in
    let passed = so_far.read log has.batches has.begun (λ _. is) has.read in
    let here = log_still log (g.D.Disk.bytes c.args.disk.now) (g.D.Disk.bytes c.loop-self.disk) c.args.self.now.at c.args.self.now.room self.at self.room is (so_far.disk.contents told).bytes so_far.place so_far.same_room in
    c.take_record.ensures.bad told log passed.passed has.begun here passed.read offset (c.in_err-take_record.was ∙ ap Err bad)

pub returns-clause-given : goal.returns-clause-given
returns-clause-given g c log given is has =
    let self = c.loop-self.self in
    let new = c.take_record.new.self in
    let so_far = c.loop-self.invariant in
    let passed = so_far.read log has.batches has.begun is has.read in
    let here : IsTrue g.D.Disk.tells → log ≡ part (g.D.Disk.bytes c.loop-self.disk) self.at self.room = λ told. log_still log (g.D.Disk.bytes c.args.disk.now) (g.D.Disk.bytes c.loop-self.disk) c.args.self.now.at c.args.self.now.room self.at self.room (is told) (so_far.disk.contents told).bytes so_far.place so_far.same_room in
    given_on g.D.Disk.tells log new has.batches has.begun given _ has.are (given_of g.D.Disk.tells log new has.batches passed.passed has.begun _ passed.same (c.in_ok-take_record.ensures.given log passed.passed has.begun here passed.read))

pub returns-clause-batch : goal.returns-clause-batch
returns-clause-batch g c log batches begun is read =
    let self = c.loop-self.self in
    let new = c.take_record.new.self in
    let so_far = c.loop-self.invariant in
    let passed = so_far.read log batches begun is read in
    let here : IsTrue g.D.Disk.tells → log ≡ part (g.D.Disk.bytes c.loop-self.disk) self.at self.room = λ told. log_still log (g.D.Disk.bytes c.args.disk.now) (g.D.Disk.bytes c.loop-self.disk) c.args.self.now.at c.args.self.now.room self.at self.room (is told) (so_far.disk.contents told).bytes so_far.place so_far.same_room in
    given_of g.D.Disk.tells log new batches passed.passed begun _ passed.same (c.in_ok-take_record.ensures.given log passed.passed begun here passed.read)
