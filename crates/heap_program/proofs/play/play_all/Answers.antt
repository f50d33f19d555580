use Rattle.std.proofs.Common.{◌≡◌, Err, rules, subst, None}
use Rattle.heap_model.specs.Core.{Core}
use Rattle.core_laws.proofs.Run.Ending.{all_of_session}
use Rattle.heap_model.specs.CoreRuns.{after_events}
use Rattle.heap_model.specs.Ending.{ending}
use Rattle.script_text.specs.Line.{events}
use Rattle.heap_program.specs.Play.{Plays, PlaysCore}
use Rattle.heap_program.proofs.PlayLaws.{plays_on, plays_then}
use Rattle.heap_program.proofs.PlayCore.{core_on, core_then}
use Rattle.heap_program.proofs.play.play_all.Goals as goal

pub returns-in_err-play_lines-clause-plays : goal.returns-in_err-play_lines-clause-plays
returns-in_err-play_lines-clause-plays g c tells of core heap running =
    let k = g.K.Sink in
    let e = c.in_err-play_lines.field-0.0 in
    let err : c.from_residual.result ≡ Err e = search rules in
    let first = c.in_err-play_lines.ensures.plays tells of core heap running in
    rw err (plays_on of core (events c.args.lines.now) (ending (after_events core (events c.args.lines.now))) c.args.heap.now c.play_lines.new.heap k.tells (k.written c.args.sink.now) (k.written c.play_lines.new.sink) (Err e) (λ never. cc) first)

pub returns-clause-plays : goal.returns-clause-plays
returns-clause-plays g c tells of core heap running =
    let k = g.K.Sink in
    let old = c.args.heap.now in
    let mid = c.play_lines.new.heap in
    let new = c.play_ending.new.heap in
    let between = k.written c.play_lines.new.sink in
    let after = k.written c.play_ending.new.sink in
    let first = c.in_ok-play_lines.ensures.plays tells of core heap running in
    plays_then of core (events c.args.lines.now) (ending (after_events core (events c.args.lines.now))) old mid new k.tells (k.written c.args.sink.now) between after c.play_ending.result (record { running = running; sessions = all_of_session None core (events c.args.lines.now) c.requires }) first
    (λ d reached is_heap is_ready. subst (λ (x : Core). Plays of d (ending x) mid new k.tells between after c.play_ending.result) reached (c.play_ending.ensures.plays tells of d is_heap is_ready.running))
    c.play_lines.ensures.disk.cause.faults_kept c.play_lines.ensures.disk.cause.stops_kept

pub returns-in_err-play_lines-clause-core : goal.returns-in_err-play_lines-clause-core
returns-in_err-play_lines-clause-core g c core is running =
    let k = g.K.Sink in
    let e = c.in_err-play_lines.field-0.0 in
    let err : c.from_residual.result ≡ Err e = search rules in
    let first = c.in_err-play_lines.ensures.core core is running in
    rw err (core_on core (events c.args.lines.now) (ending (after_events core (events c.args.lines.now))) c.play_lines.new.heap k.tells (k.written c.args.sink.now) (k.written c.play_lines.new.sink) (Err e) (λ never. cc) first)

pub returns-clause-core : goal.returns-clause-core
returns-clause-core g c core is running =
    let k = g.K.Sink in
    let new = c.play_ending.new.heap in
    let between = k.written c.play_lines.new.sink in
    let after = k.written c.play_ending.new.sink in
    core_then core (events c.args.lines.now) (ending (after_events core (events c.args.lines.now))) c.play_lines.new.heap new k.tells (k.written c.args.sink.now) between after c.play_ending.result
    (record { running = running; sessions = all_of_session None core (events c.args.lines.now) c.requires }) (c.in_ok-play_lines.ensures.core core is running)
    (λ d reached is_core is_ready. subst (λ (x : Core). PlaysCore d (ending x) new k.tells between after c.play_ending.result) reached (c.play_ending.ensures.core d is_core is_ready.running))
