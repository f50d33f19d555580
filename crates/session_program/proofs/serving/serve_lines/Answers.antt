use Rattle.std.proofs.Common.{◌∙◌, ◌≡◌, ℕ, ◌++◌, List, false, Some, None, Ok, Err, refl, rules, sym, ap, subst, arith}
use Rattle.std.specs.Prelude.{IsTrue, IsFalse}
use Rattle.heap_program.proofs.PlaysLaws.{played_none, played_on}
use Rattle.heap_core.specs.HeapState.{heap_disk}
use Rattle.heap_program.specs.declared.play.Halt.TheVariants as halt
use Rattle.heap_program.specs.StatusOf.{write_halt}
use Rattle.line_reader.specs.Taking.{IsFirstLine, Takes}
use Rattle.line_reader.specs.declared.reader.LineError.{LineError}
use Rattle.line_reader.specs.declared.reader.Taken.{Taken}
use Rattle.line_reader.specs.declared.reader.Taken.TheVariants.{Line, TooLong, Part, End}
use Rattle.session_program.specs.Ending.{line_break}
use Rattle.session_program.specs.Lines.{fault_line, reopen_line}
use Rattle.session_program.specs.declared.ending.Break.TheVariants.{Halted}
use Rattle.session_program.specs.Session.{Answers, AnswersOn, MayRefuse}
use Rattle.session_program.proofs.Answering.{may_refuse}
use Rattle.session_program.proofs.OnDisk.{refused_on, part_on}
use Rattle.session_program.proofs.PlayedLines.{parted_on, SoFarOn, on_none, line_on, long_on, part_on as pass_on, done_on, memory_on, stopped_on, line_halted_on, long_halted_on}
use Rattle.session_program.proofs.OneLine.{error_is, line_refused, line_part}
use Rattle.session_program.proofs.SoFar.{parted, SoFar, so_far_none, line_next, long_next, part_next, lines_done, lines_nothing, lines_stopped, line_halted, long_halted}
use Rattle.session_program.proofs.serving.serve_lines.Goals as goal
use Rattle.session_program.proofs.serving.serve_lines.Goals.{in-Line-2+in_ok-answer-in-Line-2, in-TooLong+in_ok-refuse-in-TooLong}

pub loop-turn-init : goal.loop-turn-init
loop-turn-init g c =
    let s = g.S.Source in
    let k = g.K.Sink in
    let left = c.args.reader.now.held ++ s.left c.args.source.now in
    let w = k.written c.args.sink.now in
    record {
      disk = played_none g.D.Disk (heap_disk c.args.heap.now) tt (Unit {0});
      source = omega arith;
      sink = omega arith;
      few = omega arith;
      core = λ core is running. so_far_none s.tells left core c.args.heap.now c.args.reader.now.passing c.requires.fresh k.tells w is running;
      plays = λ tells of core is running. on_none of s.tells left core c.args.heap.now c.args.reader.now.passing c.requires.fresh k.tells w is running;
    }

pub returns-in_err-text-clause-core : goal.returns-in_err-text-clause-core
returns-in_err-text-clause-core g c core is running =
    let s = g.S.Source in
    let k = g.K.Sink in
    let l = c.loop-turn in
    let left = c.args.reader.now.held ++ s.left c.args.source.now in
    let w = k.written c.args.sink.now in
    let now = k.written l.sink in
    let passing = l.reader.passing in
    let stream = l.reader.held ++ s.left l.source in
    let so_far = l.invariant.core core is running in
    let e = c.in_err-text.field-0.0 in
    let err : c.from_residual.result ≡ Err (line_break e) = error_is _ _ c.from_residual.ensures.0 c.from_residual.ensures.1 in
    rw err (record { part = left; rest = s.left c.next.new.source; input = (refl, refl); is = lines_stopped s.tells left core l.heap l.heap passing passing stream stream l.number k.tells w now now so_far (s.left c.next.new.source) e c.next.new.self.held (λ t. sym (c.in_err-text.ensures.err t)) (λ is. c.in_err-text.ensures.waits (ap (λ (x : LineError). Err x) is)) })

pub returns-in_err-answer-in-Line-2-clause-core : goal.returns-in_err-answer-in-Line-2-clause-core
returns-in_err-answer-in-Line-2-clause-core g c core is running =
    let s = g.S.Source in
    let k = g.K.Sink in
    let l = c.loop-turn in
    let left = c.args.reader.now.held ++ s.left c.args.source.now in
    let w = k.written c.args.sink.now in
    let now = k.written l.sink in
    let passing = l.reader.passing in
    let stream = l.reader.held ++ s.left l.source in
    let so_far = l.invariant.core core is running in
    let next = c.next.new in
    let passing' = next.self.passing in
    let rest = next.self.held ++ s.left next.source in
    let taken : IsTrue s.tells → Takes (Line c.in-Line.text) passing stream passing' rest = λ t. subst (λ (x : Taken). Takes x passing stream passing' rest) c.in-Line.is (c.in_ok-text.ensures.takes t) in
    let after = k.written c.answer.new.sink in
    let h = c.in_err-answer-in-Line-2.field-0.0 in
    let may : MayRefuse so_far.core (Some c.in-Line.text.items) = may_refuse so_far.core c.deref.result.now c.in-Line.text.items c.deref.ensures.value (c.parts_session.ensures.busy so_far.core so_far.is c.if-parts_session.false) in
    let P : List ℕ → Type 0 = λ x. Answers so_far.core l.number (Some x) c.answer.new.heap k.tells now after (Err h) in
    let answers = subst P c.deref-in-Line-2.ensures.value (c.in_err-answer-in-Line-2.ensures.core so_far.core so_far.is so_far.running) in
    let err : c.from_residual-in_err-answer-in-Line-2.result ≡ Err (Halted h) = error_is _ _ c.from_residual-in_err-answer-in-Line-2.ensures.0 c.from_residual-in_err-answer-in-Line-2.ensures.1 in
    rw err (record { part = left; rest = s.left c.next.new.source; input = (refl, refl); is = line_halted s.tells left core l.heap c.answer.new.heap passing passing' stream rest l.number k.tells w now after so_far (s.left next.source) c.in-Line.text.items h may taken answers })

pub returns-in_err-refuse-in-TooLong-clause-core : goal.returns-in_err-refuse-in-TooLong-clause-core
returns-in_err-refuse-in-TooLong-clause-core g c core is running =
    let s = g.S.Source in
    let k = g.K.Sink in
    let l = c.loop-turn in
    let left = c.args.reader.now.held ++ s.left c.args.source.now in
    let w = k.written c.args.sink.now in
    let now = k.written l.sink in
    let passing = l.reader.passing in
    let stream = l.reader.held ++ s.left l.source in
    let so_far = l.invariant.core core is running in
    let next = c.next.new in
    let passing' = next.self.passing in
    let rest = next.self.held ++ s.left next.source in
    let taken : IsTrue s.tells → Takes TooLong passing stream passing' rest = λ t. subst (λ (x : Taken). Takes x passing stream passing' rest) c.in-TooLong.is (c.in_ok-text.ensures.takes t) in
    let after = k.written c.refuse.new.sink in
    let e = c.in_err-refuse-in-TooLong.field-0.0 in
    let answers = line_part so_far.core l.number None l.heap k.tells now after so_far.is refl (fault_line l.number) refl e c.in_err-refuse-in-TooLong.ensures.wrote in
    let err : c.from_residual-in_err-refuse-in-TooLong.result ≡ Err (Halted (write_halt e)) = error_is _ _ c.from_residual-in_err-refuse-in-TooLong.ensures.0 c.from_residual-in_err-refuse-in-TooLong.ensures.1 in
    rw err (record { part = left; rest = s.left c.next.new.source; input = (refl, refl); is = long_halted s.tells left core l.heap l.heap passing passing' stream rest l.number k.tells w now after so_far (s.left next.source) (write_halt e) taken answers })

pub loop-turn-preserved-in-Part : goal.loop-turn-preserved-in-Part
loop-turn-preserved-in-Part g c =
    let s = g.S.Source in
    let k = g.K.Sink in
    let l = c.loop-turn in
    let left = c.args.reader.now.held ++ s.left c.args.source.now in
    let w = k.written c.args.sink.now in
    let now = k.written l.sink in
    let passing = l.reader.passing in
    let stream = l.reader.held ++ s.left l.source in
    let next = c.next.new in
    let passing' = next.self.passing in
    let rest = next.self.held ++ s.left next.source in
    let taken : IsTrue s.tells → Takes Part passing stream passing' rest = λ t. subst (λ (x : Taken). Takes x passing stream passing' rest) c.in-Part.is (c.in_ok-text.ensures.takes t) in
    record {
      disk = l.invariant.disk;
      source = omega (arith, l.invariant.source, c.next.ensures.kept);
      sink = l.invariant.sink;
      few = omega (arith, l.invariant.few);
      core = λ core is running. part_next s.tells left core l.heap l.heap passing passing' stream rest l.number k.tells w now now (l.invariant.core core is running) taken;
      plays = λ tells of core is running. pass_on of s.tells left core c.args.heap.now l.heap l.heap passing passing' stream rest l.number k.tells w now now (l.invariant.plays tells of core is running) taken;
    }

pub returns-in-End-clause-core : goal.returns-in-End-clause-core
returns-in-End-clause-core g c core is running =
    let s = g.S.Source in
    let k = g.K.Sink in
    let l = c.loop-turn in
    let left = c.args.reader.now.held ++ s.left c.args.source.now in
    let w = k.written c.args.sink.now in
    let now = k.written l.sink in
    let passing = l.reader.passing in
    let stream = l.reader.held ++ s.left l.source in
    let so_far = l.invariant.core core is running in
    let next = c.next.new in
    let passing' = next.self.passing in
    let rest = next.self.held ++ s.left next.source in
    let taken : IsTrue s.tells → Takes End passing stream passing' rest = λ t. subst (λ (x : Taken). Takes x passing stream passing' rest) c.in-End.is (c.in_ok-text.ensures.takes t) in
    record { part = left; rest = s.left next.source; input = (refl, refl); is = lines_done s.tells left core l.heap l.heap passing passing' stream rest l.number k.tells w now now so_far (s.left next.source) (λ t. let u = taken t in (u.0, u.2)) }

pub overflow_add-number : goal.overflow_add-number
overflow_add-number g c = omega (arith, c.loop-turn.invariant.few, c.loop-turn-test.true)

pub loop-turn-preserved : goal.loop-turn-preserved
loop-turn-preserved g c =
    let s = g.S.Source in
    let k = g.K.Sink in
    let l = c.loop-turn in
    let left = c.args.reader.now.held ++ s.left c.args.source.now in
    let w = k.written c.args.sink.now in
    let now = k.written l.sink in
    let passing = l.reader.passing in
    let stream = l.reader.held ++ s.left l.source in
    let next = c.next.new in
    let passing' = next.self.passing in
    let rest = next.self.held ++ s.left next.source in
    elim c.match-branch-2.branch [
      | in-Line-2+in_ok-answer-in-Line-2 b ↦
          let taken : IsTrue s.tells → Takes (Line b.in-Line.text) passing stream passing' rest = λ t. subst (λ (x : Taken). Takes x passing stream passing' rest) b.in-Line.is (c.in_ok-text.ensures.takes t) in
          let heap = b.answer.new.heap in
          let after = k.written b.answer.new.sink in
          rw (b.heap-is, b.sink-is) (record {
            disk = played_on g.D.Disk _ _ _ (Ok tt) (Ok tt) tt (λ well. refl) l.invariant.disk b.in_ok-answer-in-Line-2.ensures.disk;
            source = omega (arith, l.invariant.source, c.next.ensures.kept);
            sink = omega (arith, l.invariant.sink, b.in_ok-answer-in-Line-2.ensures.sink.kept);
            few = omega (arith, l.invariant.few);
            core = λ core is running.
                let so_far = l.invariant.core core is running in
                let may : MayRefuse so_far.core (Some b.in-Line.text.items) = may_refuse so_far.core b.deref.result.now b.in-Line.text.items b.deref.ensures.value (b.parts_session.ensures.busy so_far.core so_far.is b.if-parts_session.false) in
                let P : List ℕ → Type 0 = λ x. Answers so_far.core l.number (Some x) heap k.tells now after (Ok tt) in
                let answers = subst P b.deref-in-Line-2.ensures.value (b.in_ok-answer-in-Line-2.ensures.core so_far.core so_far.is so_far.running) in
                line_next s.tells left core l.heap heap passing passing' stream rest l.number k.tells w now after so_far b.in-Line.text.items may taken answers;
            plays = λ tells of core is running.
                let on = l.invariant.plays tells of core is running in
                let may : MayRefuse on.so_far.core (Some b.in-Line.text.items) = may_refuse on.so_far.core b.deref.result.now b.in-Line.text.items b.deref.ensures.value (b.parts_session.ensures.busy on.so_far.core on.so_far.is b.if-parts_session.false) in
                let P : List ℕ → Type 0 = λ x. AnswersOn of on.so_far.core l.number (Some x) l.heap heap k.tells now after (Ok tt) in
                let answers = subst P b.deref-in-Line-2.ensures.value (b.in_ok-answer-in-Line-2.ensures.plays tells of on.so_far.core on.is on.so_far.running) in
                line_on of s.tells left core c.args.heap.now l.heap heap passing passing' stream rest l.number k.tells w now after on b.in-Line.text.items may taken answers;
          })
      | in-TooLong+in_ok-refuse-in-TooLong b ↦
          let taken : IsTrue s.tells → Takes TooLong passing stream passing' rest = λ t. subst (λ (x : Taken). Takes x passing stream passing' rest) b.in-TooLong.is (c.in_ok-text.ensures.takes t) in
          let after = k.written b.refuse.new.sink in
          rw (b.heap-is, b.sink-is) (record {
            disk = l.invariant.disk;
            source = omega (arith, l.invariant.source, c.next.ensures.kept);
            sink = omega (arith, l.invariant.sink, b.in_ok-refuse-in-TooLong.ensures.sink.kept);
            few = omega (arith, l.invariant.few);
            core = λ core is running.
                let so_far = l.invariant.core core is running in
                let answers = line_refused so_far.core l.number None l.heap k.tells now after so_far.is refl (fault_line l.number) refl b.in_ok-refuse-in-TooLong.ensures.wrote in
                long_next s.tells left core l.heap l.heap passing passing' stream rest l.number k.tells w now after so_far taken answers;
            plays = λ tells of core is running.
                let on = l.invariant.plays tells of core is running in
                let answers = refused_on of on.so_far.core l.number None l.heap l.heap k.tells now after on.is refl (fault_line l.number) refl b.in_ok-refuse-in-TooLong.ensures.wrote in
                long_on of s.tells left core c.args.heap.now l.heap l.heap passing passing' stream rest l.number k.tells w now after on taken answers;
          })
    ]

pub returns-clause-core : goal.returns-clause-core
returns-clause-core g c core is running =
    let s = g.S.Source in
    let k = g.K.Sink in
    let l = c.loop-turn in
    let left = c.args.reader.now.held ++ s.left c.args.source.now in
    let w = k.written c.args.sink.now in
    let now = k.written l.sink in
    let passing = l.reader.passing in
    let stream = l.reader.held ++ s.left l.source in
    let so_far = l.invariant.core core is running in
    record { part = left; rest = s.left l.source; input = (refl, refl); is = lines_nothing s.tells left core l.heap l.heap passing passing stream stream l.number k.tells w now now so_far (s.left l.source) }

-- likewise on a modelled disk
pub returns-in_err-text-clause-plays : goal.returns-in_err-text-clause-plays
returns-in_err-text-clause-plays g c tells of core is running =
    let s = g.S.Source in
    let k = g.K.Sink in
    let l = c.loop-turn in
    let left = c.args.reader.now.held ++ s.left c.args.source.now in
    let w = k.written c.args.sink.now in
    let now = k.written l.sink in
    let old = c.args.heap.now in
    let passing = l.reader.passing in
    let stream = l.reader.held ++ s.left l.source in
    let on = l.invariant.plays tells of core is running in
    let e = c.in_err-text.field-0.0 in
    let err : c.from_residual.result ≡ Err (line_break e) = error_is _ _ c.from_residual.ensures.0 c.from_residual.ensures.1 in
    rw err (record { part = left; rest = s.left c.next.new.source; input = (refl, refl); is = stopped_on of s.tells left core old l.heap l.heap passing passing stream stream l.number k.tells w now now on (s.left c.next.new.source) e c.next.new.self.held (λ t. sym (c.in_err-text.ensures.err t)) (λ is. c.in_err-text.ensures.waits (ap (λ (x : LineError). Err x) is)) })

pub returns-in_err-answer-in-Line-2-clause-plays : goal.returns-in_err-answer-in-Line-2-clause-plays
returns-in_err-answer-in-Line-2-clause-plays g c tells of core is running =
    let s = g.S.Source in
    let k = g.K.Sink in
    let l = c.loop-turn in
    let left = c.args.reader.now.held ++ s.left c.args.source.now in
    let w = k.written c.args.sink.now in
    let now = k.written l.sink in
    let old = c.args.heap.now in
    let passing = l.reader.passing in
    let stream = l.reader.held ++ s.left l.source in
    let on = l.invariant.plays tells of core is running in
    let next = c.next.new in
    let passing' = next.self.passing in
    let rest = next.self.held ++ s.left next.source in
    let taken : IsTrue s.tells → Takes (Line c.in-Line.text) passing stream passing' rest = λ t. subst (λ (x : Taken). Takes x passing stream passing' rest) c.in-Line.is (c.in_ok-text.ensures.takes t) in
    let after = k.written c.answer.new.sink in
    let h = c.in_err-answer-in-Line-2.field-0.0 in
    let may : MayRefuse on.so_far.core (Some c.in-Line.text.items) = may_refuse on.so_far.core c.deref.result.now c.in-Line.text.items c.deref.ensures.value (c.parts_session.ensures.busy on.so_far.core on.so_far.is c.if-parts_session.false) in
    let P : List ℕ → Type 0 = λ x. AnswersOn of on.so_far.core l.number (Some x) l.heap c.answer.new.heap k.tells now after (Err h) in
    let answers = subst P c.deref-in-Line-2.ensures.value (c.in_err-answer-in-Line-2.ensures.plays tells of on.so_far.core on.is on.so_far.running) in
    let err : c.from_residual-in_err-answer-in-Line-2.result ≡ Err (Halted h) = error_is _ _ c.from_residual-in_err-answer-in-Line-2.ensures.0 c.from_residual-in_err-answer-in-Line-2.ensures.1 in
    rw err (record { part = left; rest = s.left c.next.new.source; input = (refl, refl); is = line_halted_on of s.tells left core old l.heap c.answer.new.heap passing passing' stream rest l.number k.tells w now after on (s.left next.source) l.invariant.disk.cause.faults_kept l.invariant.disk.cause.stops_kept c.in-Line.text.items h may taken answers })

pub returns-in_err-refuse-in-TooLong-clause-plays : goal.returns-in_err-refuse-in-TooLong-clause-plays
returns-in_err-refuse-in-TooLong-clause-plays g c tells of core is running =
    let s = g.S.Source in
    let k = g.K.Sink in
    let l = c.loop-turn in
    let left = c.args.reader.now.held ++ s.left c.args.source.now in
    let w = k.written c.args.sink.now in
    let now = k.written l.sink in
    let old = c.args.heap.now in
    let passing = l.reader.passing in
    let stream = l.reader.held ++ s.left l.source in
    let on = l.invariant.plays tells of core is running in
    let next = c.next.new in
    let passing' = next.self.passing in
    let rest = next.self.held ++ s.left next.source in
    let taken : IsTrue s.tells → Takes TooLong passing stream passing' rest = λ t. subst (λ (x : Taken). Takes x passing stream passing' rest) c.in-TooLong.is (c.in_ok-text.ensures.takes t) in
    let after = k.written c.refuse.new.sink in
    let e = c.in_err-refuse-in-TooLong.field-0.0 in
    let answers = part_on of on.so_far.core l.number None l.heap l.heap k.tells now after on.is refl (fault_line l.number) refl e c.in_err-refuse-in-TooLong.ensures.wrote in
    let err : c.from_residual-in_err-refuse-in-TooLong.result ≡ Err (Halted (write_halt e)) = error_is _ _ c.from_residual-in_err-refuse-in-TooLong.ensures.0 c.from_residual-in_err-refuse-in-TooLong.ensures.1 in
    rw err (record { part = left; rest = s.left c.next.new.source; input = (refl, refl); is = long_halted_on of s.tells left core old l.heap l.heap passing passing' stream rest l.number k.tells w now after on (s.left next.source) l.invariant.disk.cause.faults_kept l.invariant.disk.cause.stops_kept (write_halt e) taken answers })

pub returns-in-End-clause-plays : goal.returns-in-End-clause-plays
returns-in-End-clause-plays g c tells of core is running =
    let s = g.S.Source in
    let k = g.K.Sink in
    let l = c.loop-turn in
    let left = c.args.reader.now.held ++ s.left c.args.source.now in
    let w = k.written c.args.sink.now in
    let now = k.written l.sink in
    let old = c.args.heap.now in
    let passing = l.reader.passing in
    let stream = l.reader.held ++ s.left l.source in
    let on = l.invariant.plays tells of core is running in
    let next = c.next.new in
    let passing' = next.self.passing in
    let rest = next.self.held ++ s.left next.source in
    let taken : IsTrue s.tells → Takes End passing stream passing' rest = λ t. subst (λ (x : Taken). Takes x passing stream passing' rest) c.in-End.is (c.in_ok-text.ensures.takes t) in
    record { part = left; rest = s.left next.source; input = (refl, refl); is = done_on of s.tells left core old l.heap l.heap passing passing' stream rest l.number k.tells w now now on (s.left next.source) (λ t. let u = taken t in (u.0, u.2)) }

pub returns-clause-plays : goal.returns-clause-plays
returns-clause-plays g c tells of core is running =
    let s = g.S.Source in
    let k = g.K.Sink in
    let l = c.loop-turn in
    let left = c.args.reader.now.held ++ s.left c.args.source.now in
    let w = k.written c.args.sink.now in
    let now = k.written l.sink in
    let old = c.args.heap.now in
    let passing = l.reader.passing in
    let stream = l.reader.held ++ s.left l.source in
    let on = l.invariant.plays tells of core is running in
    record { part = left; rest = s.left l.source; input = (refl, refl); is = memory_on of s.tells left core old l.heap l.heap passing passing stream stream l.number k.tells w now now on (s.left l.source) }

-- a line parts the session there
pub returns-in-Line-clause-core : goal.returns-in-Line-clause-core
returns-in-Line-clause-core g c core is running =
    let s = g.S.Source in
    let k = g.K.Sink in
    let l = c.loop-turn in
    let left = c.args.reader.now.held ++ s.left c.args.source.now in
    let w = k.written c.args.sink.now in
    let now = k.written l.sink in
    let passing = l.reader.passing in
    let stream = l.reader.held ++ s.left l.source in
    let next = c.next.new in
    let passing' = next.self.passing in
    let rest = next.self.held ++ s.left next.source in
    let taken : IsTrue s.tells → Takes (Line c.in-Line.text) passing stream passing' rest = λ t. subst (λ (x : Taken). Takes x passing stream passing' rest) c.in-Line.is (c.in_ok-text.ensures.takes t) in
    let is_reopen : c.in-Line.text.items ≡ reopen_line = sym c.deref.ensures.value ∙ c.parts_session.ensures.line c.if-parts_session.true in
    let parts : IsTrue s.tells → IsFalse passing × IsFalse passing' × IsFirstLine reopen_line stream rest = λ t. subst (λ (x : List ℕ). IsFalse passing × IsFalse passing' × IsFirstLine x stream rest) is_reopen (taken t) in
    let so_far = l.invariant.core core is running in
    parted s.tells left core l.heap l.heap passing passing' stream rest l.number k.tells w now now so_far (c.parts_session.ensures.idle so_far.core so_far.is c.if-parts_session.true) parts (s.left next.source)

pub returns-in-Line-clause-plays : goal.returns-in-Line-clause-plays
returns-in-Line-clause-plays g c tells of core is running =
    let s = g.S.Source in
    let k = g.K.Sink in
    let l = c.loop-turn in
    let left = c.args.reader.now.held ++ s.left c.args.source.now in
    let w = k.written c.args.sink.now in
    let now = k.written l.sink in
    let passing = l.reader.passing in
    let stream = l.reader.held ++ s.left l.source in
    let next = c.next.new in
    let passing' = next.self.passing in
    let rest = next.self.held ++ s.left next.source in
    let taken : IsTrue s.tells → Takes (Line c.in-Line.text) passing stream passing' rest = λ t. subst (λ (x : Taken). Takes x passing stream passing' rest) c.in-Line.is (c.in_ok-text.ensures.takes t) in
    let is_reopen : c.in-Line.text.items ≡ reopen_line = sym c.deref.ensures.value ∙ c.parts_session.ensures.line c.if-parts_session.true in
    let parts : IsTrue s.tells → IsFalse passing × IsFalse passing' × IsFirstLine reopen_line stream rest = λ t. subst (λ (x : List ℕ). IsFalse passing × IsFalse passing' × IsFirstLine x stream rest) is_reopen (taken t) in
    let on = l.invariant.plays tells of core is running in
    parted_on of s.tells left core c.args.heap.now l.heap l.heap passing passing' stream rest l.number k.tells w now now on (c.parts_session.ensures.idle on.so_far.core on.so_far.is c.if-parts_session.true) parts (s.left next.source)
