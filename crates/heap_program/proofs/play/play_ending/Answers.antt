use Rattle.std.proofs.Common.{◌≡◌, Err, rules, subst}
use Rattle.heap_model.specs.Core.{Core}
use Rattle.core_laws.proofs.Run.Ending.{ending_of_session}
use Rattle.heap_model.specs.CoreRuns.{after_events}
use Rattle.heap_model.specs.Ending.{aborting, forcing}
use Rattle.heap_program.specs.Play.{Plays, PlaysCore}
use Rattle.heap_program.proofs.PlayLaws.{plays_on, plays_then}
use Rattle.heap_program.proofs.PlayCore.{core_on, core_then}
use Rattle.heap_program.proofs.play.play_ending.Goals as goal

pub returns-in_err-play_aborts-clause-plays : goal.returns-in_err-play_aborts-clause-plays
returns-in_err-play_aborts-clause-plays g c tells of core heap running =
    let k = g.K.Sink in
    let e = c.in_err-play_aborts.field-0.0 in
    let err : c.from_residual.result ≡ Err e = search rules in
    let first = c.in_err-play_aborts.ensures.plays tells of core heap running in
    rw err (plays_on of core (aborting core) (forcing (after_events core (aborting core))) c.args.heap.now c.play_aborts.new.heap k.tells (k.written c.args.sink.now) (k.written c.play_aborts.new.sink) (Err e) (λ never. cc) first)

pub returns-clause-plays : goal.returns-clause-plays
returns-clause-plays g c tells of core heap running =
    let k = g.K.Sink in
    let old = c.args.heap.now in
    let mid = c.play_aborts.new.heap in
    let new = c.play_force.new.heap in
    let between = k.written c.play_aborts.new.sink in
    let after = k.written c.play_force.new.sink in
    let first = c.in_ok-play_aborts.ensures.plays tells of core heap running in
    plays_then of core (aborting core) (forcing (after_events core (aborting core))) old mid new k.tells (k.written c.args.sink.now) between after c.play_force.result (record { running = running; sessions = ending_of_session core }) first
    (λ d reached is_heap is_ready. subst (λ (x : Core). Plays of d (forcing x) mid new k.tells between after c.play_force.result) reached (c.play_force.ensures.plays tells of d is_heap is_ready.running))
    c.play_aborts.ensures.disk.cause.faults_kept c.play_aborts.ensures.disk.cause.stops_kept

pub returns-in_err-play_aborts-clause-core : goal.returns-in_err-play_aborts-clause-core
returns-in_err-play_aborts-clause-core g c core is running =
    let k = g.K.Sink in
    let e = c.in_err-play_aborts.field-0.0 in
    let err : c.from_residual.result ≡ Err e = search rules in
    let first = c.in_err-play_aborts.ensures.core core is running in
    rw err (core_on core (aborting core) (forcing (after_events core (aborting core))) c.play_aborts.new.heap k.tells (k.written c.args.sink.now) (k.written c.play_aborts.new.sink) (Err e) (λ never. cc) first)

pub returns-clause-core : goal.returns-clause-core
returns-clause-core g c core is running =
    let k = g.K.Sink in
    let new = c.play_force.new.heap in
    let between = k.written c.play_aborts.new.sink in
    let after = k.written c.play_force.new.sink in
    core_then core (aborting core) (forcing (after_events core (aborting core))) c.play_aborts.new.heap new k.tells (k.written c.args.sink.now) between after c.play_force.result (record { running = running; sessions = ending_of_session core })
    (c.in_ok-play_aborts.ensures.core core is running)
    (λ d reached is_core is_ready. subst (λ (x : Core). PlaysCore d (forcing x) new k.tells between after c.play_force.result) reached (c.play_force.ensures.core d is_core is_ready.running))
