use Rattle.std.proofs.Common.{◌≡◌, List, Ok, Err, rules, refl, subst, take, arith}
use Rattle.std.proofs.lemmas.List.{take_all}
use Rattle.heap_program.proofs.PlaysLaws.{played_none, played_on}
use Rattle.heap_core.specs.HeapState.{heap_disk}
use Rattle.script_text.specs.declared.line.Line.{Line}
use Rattle.heap_program.specs.Play.{Plays, PlaysCore}
use Rattle.script_text.specs.Line.{events}
use Rattle.heap_program.proofs.PlayLaws.{plays_none}
use Rattle.heap_program.proofs.PlayLoop.{line_sessions, line_more, line_last}
use Rattle.heap_program.proofs.PlayCore.{core_none, core_more, core_last}
use Rattle.heap_program.proofs.play.play_lines.Goals as goal

pub loop-line-init : goal.loop-line-init
loop-line-init g c = record {
  disk = played_none g.D.Disk (heap_disk c.args.heap.now) tt (Unit {0});
  sink = omega arith;
  core = λ core is running. core_none core c.args.heap.now g.K.Sink.tells (g.K.Sink.written c.args.sink.now) is;
  plays = λ tells of core is running. plays_none of core c.args.heap.now g.K.Sink.tells (g.K.Sink.written c.args.sink.now) is;
}

pub play_line-requires : goal.play_line-requires
play_line-requires g c = line_sessions c.args.lines.now c.loop-line.line-index _ c.loop-line-test.true c.requires

pub returns-in_err-play_line-clause-plays : goal.returns-in_err-play_line-clause-plays
returns-in_err-play_line-clause-plays g c tells of core heap running =
    let k = g.K.Sink in
    let i = c.loop-line.invariant in
    let e = c.in_err-play_line.field-0.0 in
    let err : c.from_residual.result ≡ Err e = search rules in
    rw err (line_last of core c.args.lines.now c.loop-line.line-index _ c.loop-line-test.true (record { running = running; sessions = c.requires }) c.args.heap.now c.loop-line.heap c.play_line.new.heap k.tells (k.written c.args.sink.now) (k.written c.loop-line.sink) (k.written c.play_line.new.sink) (Err e)
    (i.plays tells of core heap running) (λ d is_heap is_ready. c.in_err-play_line.ensures.plays tells of d is_heap is_ready.running) i.disk.cause.faults_kept i.disk.cause.stops_kept (λ never. cc))

pub loop-line-preserved : goal.loop-line-preserved
loop-line-preserved g c =
    let k = g.K.Sink in
    let i = c.loop-line.invariant in
    record {
      disk = played_on g.D.Disk _ _ _ (Ok tt) (Ok tt) tt (λ well. refl) i.disk c.in_ok-play_line.ensures.disk;
      sink = omega (arith, i.sink, c.in_ok-play_line.ensures.sink.kept);
      core = λ core is running. core_more core c.args.lines.now c.loop-line.line-index _ c.loop-line-test.true (record { running = running; sessions = c.requires }) c.loop-line.heap c.play_line.new.heap k.tells (k.written c.args.sink.now) (k.written c.loop-line.sink) (k.written c.play_line.new.sink) (Ok tt)
          (i.core core is running) (λ d is_core is_ready. c.in_ok-play_line.ensures.core d is_core is_ready.running);
      plays = λ tells of core heap running.
          line_more of core c.args.lines.now c.loop-line.line-index _ c.loop-line-test.true (record { running = running; sessions = c.requires }) c.args.heap.now c.loop-line.heap c.play_line.new.heap k.tells (k.written c.args.sink.now) (k.written c.loop-line.sink) (k.written c.play_line.new.sink) (Ok tt)
          (i.plays tells of core heap running) (λ d is_heap is_ready. c.in_ok-play_line.ensures.plays tells of d is_heap is_ready.running) i.disk.cause.faults_kept i.disk.cause.stops_kept;
    }

pub returns-clause-plays : goal.returns-clause-plays
returns-clause-plays g c tells of core heap running =
    let k = g.K.Sink in
    let all : take c.loop-line.line-index c.args.lines.now ≡ c.args.lines.now = take_all c.loop-line.line-index c.args.lines.now (search rules) in
    subst (λ (l : List Line). Plays of core (events l) c.args.heap.now c.loop-line.heap k.tells (k.written c.args.sink.now) (k.written c.loop-line.sink) (Ok tt)) all (c.loop-line.invariant.plays tells of core heap running)

pub returns-in_err-play_line-clause-core : goal.returns-in_err-play_line-clause-core
returns-in_err-play_line-clause-core g c core is running =
    let k = g.K.Sink in
    let i = c.loop-line.invariant in
    let e = c.in_err-play_line.field-0.0 in
    let err : c.from_residual.result ≡ Err e = search rules in
    rw err (core_last core c.args.lines.now c.loop-line.line-index _ c.loop-line-test.true (record { running = running; sessions = c.requires }) c.loop-line.heap c.play_line.new.heap k.tells (k.written c.args.sink.now) (k.written c.loop-line.sink) (k.written c.play_line.new.sink) (Err e)
    (i.core core is running) (λ d is_core is_ready. c.in_err-play_line.ensures.core d is_core is_ready.running) (λ never. cc))

pub returns-clause-core : goal.returns-clause-core
returns-clause-core g c core is running =
    let k = g.K.Sink in
    let all : take c.loop-line.line-index c.args.lines.now ≡ c.args.lines.now = take_all c.loop-line.line-index c.args.lines.now (search rules) in
    subst (λ (l : List Line). PlaysCore core (events l) c.loop-line.heap k.tells (k.written c.args.sink.now) (k.written c.loop-line.sink) (Ok tt)) all (c.loop-line.invariant.core core is running)
