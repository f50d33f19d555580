use Rattle.std.proofs.Common.{◌≡◌, List, ℕ, ◌++◌, Ok, Err, refl, subst}
use Rattle.session_program.specs.declared.ending.Break.TheVariants.{Halted}
use Rattle.session_program.specs.declared.parts.Next.{Next}
use Rattle.session_program.specs.declared.parts.Next.TheVariants as next
use Rattle.session_program.specs.Session.{OfInput, ServesLines, ServesLinesOn}
use Rattle.session_program.proofs.OneLine.{error_is}
use Rattle.session_program.proofs.ServedWhole.{early_on, whole_on, cut_on}
use Rattle.session_program.proofs.Whole.{session_early, session_whole, session_parted, still}
use Rattle.session_program.proofs.serving.serve_all.Goals as goal

pub returns-in_err-serve_lines-clause-core : goal.returns-in_err-serve_lines-clause-core
returns-in_err-serve_lines-clause-core g c core is running =
    let s = g.S.Source in
    let k = g.K.Sink in
    let b = c.in_err-serve_lines.field-0.0 in
    let o = c.in_err-serve_lines.ensures.core core is running in
    let err : c.from_residual.result ≡ Err b = error_is _ _ c.from_residual.ensures.0 c.from_residual.ensures.1 in
    rw err (record { part = o.part; rest = o.rest; input = o.input; is = session_early s.tells o.part o.rest core k.tells (k.written c.args.sink.now) c.serve_lines.new.heap (k.written c.serve_lines.new.sink) b o.is })

pub returns-in-Reopen-clause-core : goal.returns-in-Reopen-clause-core
returns-in-Reopen-clause-core g c core is running =
    let s = g.S.Source in
    let k = g.K.Sink in
    let stream = c.args.reader.now.held ++ s.left c.args.source.now in
    let stream' = c.serve_lines.new.reader.held ++ s.left c.serve_lines.new.source in
    let left' = s.left c.serve_lines.new.source in
    let w = k.written c.args.sink.now in
    let mid = c.serve_lines.new.heap in
    let now = k.written c.serve_lines.new.sink in
    let P : Next → Type 0 = λ n. OfInput s.tells n stream stream' left' (λ part rest. ServesLines s.tells part rest core mid k.tells w now (Ok n)) in
    let o = subst P c.in-Reopen.is (c.in_ok-serve_lines.ensures.core core is running) in
    record { part = o.part; rest = o.rest; input = o.input; is = session_parted s.tells o.part o.rest core k.tells w running mid now o.is }

pub returns-in_err-play_ending-in-End-clause-core : goal.returns-in_err-play_ending-in-End-clause-core
returns-in_err-play_ending-in-End-clause-core g c core is running =
    let s = g.S.Source in
    let k = g.K.Sink in
    let stream = c.args.reader.now.held ++ s.left c.args.source.now in
    let stream' = c.serve_lines.new.reader.held ++ s.left c.serve_lines.new.source in
    let left' = s.left c.serve_lines.new.source in
    let w = k.written c.args.sink.now in
    let mid = c.serve_lines.new.heap in
    let now = k.written c.serve_lines.new.sink in
    let P : Next → Type 0 = λ n. OfInput s.tells n stream stream' left' (λ part rest. ServesLines s.tells part rest core mid k.tells w now (Ok n)) in
    let o = subst P c.in-End.is (c.in_ok-serve_lines.ensures.core core is running) in
    let h = c.in_err-play_ending-in-End.field-0.0 in
    let err : c.from_residual-in_err-play_ending-in-End.result ≡ Err (Halted h) = error_is _ _ c.from_residual-in_err-play_ending-in-End.ensures.0 c.from_residual-in_err-play_ending-in-End.ensures.1 in
    rw err (record { part = o.part; rest = o.rest; input = o.input; is = session_whole s.tells o.part o.rest core k.tells w running mid c.play_ending.new.heap now (k.written c.play_ending.new.sink) next.End o.is (Err h) c.in_err-play_ending-in-End.ensures.core })

pub returns-in_ok-play_ending-in-End-clause-core : goal.returns-in_ok-play_ending-in-End-clause-core
returns-in_ok-play_ending-in-End-clause-core g c core is running =
    let s = g.S.Source in
    let k = g.K.Sink in
    let stream = c.args.reader.now.held ++ s.left c.args.source.now in
    let stream' = c.serve_lines.new.reader.held ++ s.left c.serve_lines.new.source in
    let left' = s.left c.serve_lines.new.source in
    let w = k.written c.args.sink.now in
    let mid = c.serve_lines.new.heap in
    let now = k.written c.serve_lines.new.sink in
    let P : Next → Type 0 = λ n. OfInput s.tells n stream stream' left' (λ part rest. ServesLines s.tells part rest core mid k.tells w now (Ok n)) in
    let o = subst P c.in-End.is (c.in_ok-serve_lines.ensures.core core is running) in
    record { part = o.part; rest = o.rest; input = o.input; is = session_whole s.tells o.part o.rest core k.tells w running mid c.play_ending.new.heap now (k.written c.play_ending.new.sink) next.End o.is (Ok tt) c.in_ok-play_ending-in-End.ensures.core }

-- likewise on a modelled disk
pub returns-in_err-serve_lines-clause-plays : goal.returns-in_err-serve_lines-clause-plays
returns-in_err-serve_lines-clause-plays g c tells of core is running =
    let s = g.S.Source in
    let k = g.K.Sink in
    let b = c.in_err-serve_lines.field-0.0 in
    let o = c.in_err-serve_lines.ensures.plays tells of core is running in
    let err : c.from_residual.result ≡ Err b = error_is _ _ c.from_residual.ensures.0 c.from_residual.ensures.1 in
    rw err (record { part = o.part; rest = o.rest; input = o.input; is = early_on of s.tells o.part o.rest core k.tells (k.written c.args.sink.now) c.args.heap.now c.serve_lines.new.heap (k.written c.serve_lines.new.sink) b o.is })

pub returns-in-Reopen-clause-plays : goal.returns-in-Reopen-clause-plays
returns-in-Reopen-clause-plays g c tells of core is running =
    let s = g.S.Source in
    let k = g.K.Sink in
    let stream = c.args.reader.now.held ++ s.left c.args.source.now in
    let stream' = c.serve_lines.new.reader.held ++ s.left c.serve_lines.new.source in
    let left' = s.left c.serve_lines.new.source in
    let w = k.written c.args.sink.now in
    let mid = c.serve_lines.new.heap in
    let now = k.written c.serve_lines.new.sink in
    let P : Next → Type 0 = λ n. OfInput s.tells n stream stream' left' (λ part rest. ServesLinesOn of s.tells part rest core c.args.heap.now mid k.tells w now (Ok n)) in
    let o = subst P c.in-Reopen.is (c.in_ok-serve_lines.ensures.plays tells of core is running) in
    let on = o.is in
    record { part = o.part; rest = o.rest; input = o.input; is = cut_on of s.tells o.part o.rest core k.tells w running c.args.heap.now mid now on c.serve_lines.ensures.disk.cause.faults_kept c.serve_lines.ensures.disk.cause.stops_kept }

pub returns-in_err-play_ending-in-End-clause-plays : goal.returns-in_err-play_ending-in-End-clause-plays
returns-in_err-play_ending-in-End-clause-plays g c tells of core is running =
    let s = g.S.Source in
    let k = g.K.Sink in
    let stream = c.args.reader.now.held ++ s.left c.args.source.now in
    let stream' = c.serve_lines.new.reader.held ++ s.left c.serve_lines.new.source in
    let left' = s.left c.serve_lines.new.source in
    let w = k.written c.args.sink.now in
    let mid = c.serve_lines.new.heap in
    let now = k.written c.serve_lines.new.sink in
    let P : Next → Type 0 = λ n. OfInput s.tells n stream stream' left' (λ part rest. ServesLinesOn of s.tells part rest core c.args.heap.now mid k.tells w now (Ok n)) in
    let o = subst P c.in-End.is (c.in_ok-serve_lines.ensures.plays tells of core is running) in
    let on = o.is in
    let new = c.play_ending.new.heap in
    let after = k.written c.play_ending.new.sink in
    let h = c.in_err-play_ending-in-End.field-0.0 in
    let plays = c.in_err-play_ending-in-End.ensures.plays tells of on.lines.core on.makes.heap (still s.tells o.part o.rest core k.tells w running mid new now after next.End on.lines) in
    let err : c.from_residual-in_err-play_ending-in-End.result ≡ Err (Halted h) = error_is _ _ c.from_residual-in_err-play_ending-in-End.ensures.0 c.from_residual-in_err-play_ending-in-End.ensures.1 in
    rw err (record { part = o.part; rest = o.rest; input = o.input; is = whole_on of s.tells o.part o.rest core k.tells w running c.args.heap.now mid new now after next.End on c.serve_lines.ensures.disk.cause.faults_kept c.serve_lines.ensures.disk.cause.stops_kept (Err h) plays })

pub returns-in_ok-play_ending-in-End-clause-plays : goal.returns-in_ok-play_ending-in-End-clause-plays
returns-in_ok-play_ending-in-End-clause-plays g c tells of core is running =
    let s = g.S.Source in
    let k = g.K.Sink in
    let stream = c.args.reader.now.held ++ s.left c.args.source.now in
    let stream' = c.serve_lines.new.reader.held ++ s.left c.serve_lines.new.source in
    let left' = s.left c.serve_lines.new.source in
    let w = k.written c.args.sink.now in
    let mid = c.serve_lines.new.heap in
    let now = k.written c.serve_lines.new.sink in
    let P : Next → Type 0 = λ n. OfInput s.tells n stream stream' left' (λ part rest. ServesLinesOn of s.tells part rest core c.args.heap.now mid k.tells w now (Ok n)) in
    let o = subst P c.in-End.is (c.in_ok-serve_lines.ensures.plays tells of core is running) in
    let on = o.is in
    let new = c.play_ending.new.heap in
    let after = k.written c.play_ending.new.sink in
    let plays = c.in_ok-play_ending-in-End.ensures.plays tells of on.lines.core on.makes.heap (still s.tells o.part o.rest core k.tells w running mid new now after next.End on.lines) in
    record { part = o.part; rest = o.rest; input = o.input; is = whole_on of s.tells o.part o.rest core k.tells w running c.args.heap.now mid new now after next.End on c.serve_lines.ensures.disk.cause.faults_kept c.serve_lines.ensures.disk.cause.stops_kept (Ok tt) plays }
