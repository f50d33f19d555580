use Rattle.std.proofs.Common.{◌≡◌, ℕ, ◌+◌, ◌-◌, ◌≤◌, ◌∙◌, List, Ok, Err, rules, refl, subst, ap, arith}
use Rattle.heap_program.proofs.PlaysLaws.{played_none, played_on}
use Rattle.graph_model.specs.declared.event.Event.{Event}
use Rattle.core_laws.proofs.Run.Aborting.{aborting_until, until_last}
use Rattle.heap_core.specs.HeapState.{heap_disk}
use Rattle.heap_model.specs.Core.{Core}
use Rattle.heap_model.specs.Ending.{aborting}
use Rattle.heap_program.specs.Play.{Plays, PlaysCore}
use Rattle.heap_program.proofs.PlayAborts.{core_aborts, core_aborts_last, plays_aborts, plays_aborts_last}
use Rattle.heap_program.proofs.PlayCore.{core_none}
use Rattle.heap_program.proofs.PlayLaws.{plays_none}
use Rattle.heap_program.proofs.play.play_aborts.Goals as goal

-- after the last session all have aborted
all_aborted : (s : ℕ) (c : Core) → 33 ≤ s → s ≤ 33 → aborting_until (s - 1) c ≡ aborting c
all_aborted s c low high = let last : s - 1 ≡ 32 = omega arith in ap (λ (n : ℕ). aborting_until n c) last ∙ until_last c

pub loop-s-init : goal.loop-s-init
loop-s-init g c = record {
  disk = played_none g.D.Disk (heap_disk c.args.heap.now) tt (Unit {0});
  sink = omega arith;
  core = λ core is running. core_none core c.args.heap.now g.K.Sink.tells (g.K.Sink.written c.args.sink.now) is;
  plays = λ tells of core is running. plays_none of core c.args.heap.now g.K.Sink.tells (g.K.Sink.written c.args.sink.now) is;
}

pub returns-in_err-play_abort-clause-core : goal.returns-in_err-play_abort-clause-core
returns-in_err-play_abort-clause-core g c core is running =
    let k = g.K.Sink in
    let i = c.loop-s.invariant in
    let s = c.loop-s.s in
    let e = c.in_err-play_abort.field-0.0 in
    let err : c.from_residual.result ≡ Err e = search rules in
    rw err (core_aborts_last core running (s - 1) s (omega arith) (omega arith) c.loop-s.heap c.play_abort.new.heap k.tells (k.written c.args.sink.now) (k.written c.loop-s.sink) (k.written c.play_abort.new.sink) (Err e)
    (i.core core is running) (λ d is_core is_running. c.in_err-play_abort.ensures.core d is_core is_running) (λ never. cc))

pub returns-in_err-play_abort-clause-plays : goal.returns-in_err-play_abort-clause-plays
returns-in_err-play_abort-clause-plays g c tells of core heap running =
    let k = g.K.Sink in
    let i = c.loop-s.invariant in
    let s = c.loop-s.s in
    let e = c.in_err-play_abort.field-0.0 in
    let err : c.from_residual.result ≡ Err e = search rules in
    rw err (plays_aborts_last core running (s - 1) s (omega arith) (omega arith) c.loop-s.heap c.play_abort.new.heap k.tells (k.written c.args.sink.now) (k.written c.loop-s.sink) (k.written c.play_abort.new.sink) (Err e) of c.args.heap.now
    (i.plays tells of core heap running) (λ d is_heap is_running. c.in_err-play_abort.ensures.plays tells of d is_heap is_running) i.disk.cause.faults_kept i.disk.cause.stops_kept (λ never. cc))

pub loop-s-preserved : goal.loop-s-preserved
loop-s-preserved g c =
    let k = g.K.Sink in
    let i = c.loop-s.invariant in
    let s = c.loop-s.s in
    let same : s ≡ (s + 1) - 1 = omega arith in
    record {
      disk = played_on g.D.Disk _ _ _ (Ok tt) (Ok tt) tt (λ well. refl) i.disk c.in_ok-play_abort.ensures.disk;
      sink = omega (arith, i.sink, c.in_ok-play_abort.ensures.sink.kept);
      core = λ core is running.
          let P : ℕ → Type 0 = λ n. PlaysCore core (aborting_until n core) c.play_abort.new.heap k.tells (k.written c.args.sink.now) (k.written c.play_abort.new.sink) (Ok tt) in
          subst P same (core_aborts core running (s - 1) s (omega arith) (omega arith) c.loop-s.heap c.play_abort.new.heap k.tells (k.written c.args.sink.now) (k.written c.loop-s.sink) (k.written c.play_abort.new.sink) (Ok tt)
          (i.core core is running) (λ d is_core is_running. c.in_ok-play_abort.ensures.core d is_core is_running));
      plays = λ tells of core heap running.
          let P : ℕ → Type 0 = λ n. Plays of core (aborting_until n core) c.args.heap.now c.play_abort.new.heap k.tells (k.written c.args.sink.now) (k.written c.play_abort.new.sink) (Ok tt) in
          subst P same (plays_aborts core running (s - 1) s (omega arith) (omega arith) c.loop-s.heap c.play_abort.new.heap k.tells (k.written c.args.sink.now) (k.written c.loop-s.sink) (k.written c.play_abort.new.sink) (Ok tt) of c.args.heap.now
          (i.plays tells of core heap running) (λ d is_heap is_running. c.in_ok-play_abort.ensures.plays tells of d is_heap is_running) i.disk.cause.faults_kept i.disk.cause.stops_kept);
    }

pub returns-clause-core : goal.returns-clause-core
returns-clause-core g c core is running =
    let k = g.K.Sink in
    let s = c.loop-s.s in
    subst (λ (l : List Event). PlaysCore core l c.loop-s.heap k.tells (k.written c.args.sink.now) (k.written c.loop-s.sink) (Ok tt)) (all_aborted s core (omega arith) (omega arith)) (c.loop-s.invariant.core core is running)

pub returns-clause-plays : goal.returns-clause-plays
returns-clause-plays g c tells of core heap running =
    let k = g.K.Sink in
    let s = c.loop-s.s in
    subst (λ (l : List Event). Plays of core l c.args.heap.now c.loop-s.heap k.tells (k.written c.args.sink.now) (k.written c.loop-s.sink) (Ok tt)) (all_aborted s core (omega arith) (omega arith)) (c.loop-s.invariant.plays tells of core heap running)
