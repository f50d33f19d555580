use Rattle.std.proofs.Common.{◌≡◌, List, Ok, Err, rules, sym, subst, None}
use Rattle.std.specs.List.{AllByRecursion}
use Rattle.graph_model.specs.History.{IsOfSession}
use Rattle.heap_model.specs.Core.{Core}
use Rattle.core_laws.proofs.Run.Ending.{all_of_session}
use Rattle.heap_model.specs.CoreRuns.{after_events}
use Rattle.heap_model.specs.Ending.{ending}
use Rattle.script_text.specs.declared.line.Line.{Line}
use Rattle.script_text.specs.Line.{events}
use Rattle.script_text.specs.Load.{load_lines}
use Rattle.script_text.proofs.LoadLaws.{load_sessions}
use Rattle.heap_program.specs.Play.{Plays, PlaysCore}
use Rattle.heap_program.proofs.PlayLaws.{plays_on, plays_then}
use Rattle.heap_program.proofs.PlayCore.{core_on, core_then}
use Rattle.heap_program.proofs.rounds.play_load.Goals as goal

pub play_rounds-requires : goal.play_rounds-requires
play_rounds-requires g c = subst (λ (ls : List Line). AllByRecursion IsOfSession (events ls)) (sym c.new.ensures.lines) (load_sessions c.args.seed c.args.count)

pub returns-in_err-play_rounds-clause-plays : goal.returns-in_err-play_rounds-clause-plays
returns-in_err-play_rounds-clause-plays g c tells of core heap running =
    let k = g.K.Sink in
    let e = c.in_err-play_rounds.field-0.0 in
    let err : c.from_residual.result ≡ Err e = search rules in
    let first = subst (λ (ls : List Line). Plays of core (events ls) c.args.heap.now c.play_rounds.new.heap k.tells (k.written c.args.sink.now) (k.written c.play_rounds.new.sink) (Err e)) c.new.ensures.lines (c.in_err-play_rounds.ensures.plays tells of core heap running) in
    rw err (plays_on of core (events (load_lines c.args.seed c.args.count)) (ending (after_events core (events (load_lines c.args.seed c.args.count)))) c.args.heap.now c.play_rounds.new.heap k.tells (k.written c.args.sink.now) (k.written c.play_rounds.new.sink) (Err e) (λ never. cc) first)

pub returns-clause-plays : goal.returns-clause-plays
returns-clause-plays g c tells of core heap running =
    let k = g.K.Sink in
    let old = c.args.heap.now in
    let mid = c.play_rounds.new.heap in
    let new = c.play_ending.new.heap in
    let between = k.written c.play_rounds.new.sink in
    let after = k.written c.play_ending.new.sink in
    let first = subst (λ (ls : List Line). Plays of core (events ls) old mid k.tells (k.written c.args.sink.now) between (Ok tt)) c.new.ensures.lines (c.in_ok-play_rounds.ensures.plays tells of core heap running) in
    plays_then of core (events (load_lines c.args.seed c.args.count)) (ending (after_events core (events (load_lines c.args.seed c.args.count)))) old mid new k.tells (k.written c.args.sink.now) between after c.play_ending.result (record { running = running; sessions = all_of_session None core (events (load_lines c.args.seed c.args.count)) (load_sessions c.args.seed c.args.count) }) first
    (λ d reached is_heap is_ready. subst (λ (x : Core). Plays of d (ending x) mid new k.tells between after c.play_ending.result) reached (c.play_ending.ensures.plays tells of d is_heap is_ready.running))
    c.play_rounds.ensures.disk.cause.faults_kept c.play_rounds.ensures.disk.cause.stops_kept

pub returns-in_err-play_rounds-clause-core : goal.returns-in_err-play_rounds-clause-core
returns-in_err-play_rounds-clause-core g c core is running =
    let k = g.K.Sink in
    let e = c.in_err-play_rounds.field-0.0 in
    let err : c.from_residual.result ≡ Err e = search rules in
    let first = subst (λ (ls : List Line). PlaysCore core (events ls) c.play_rounds.new.heap k.tells (k.written c.args.sink.now) (k.written c.play_rounds.new.sink) (Err e)) c.new.ensures.lines (c.in_err-play_rounds.ensures.core core is running) in
    rw err (core_on core (events (load_lines c.args.seed c.args.count)) (ending (after_events core (events (load_lines c.args.seed c.args.count)))) c.play_rounds.new.heap k.tells (k.written c.args.sink.now) (k.written c.play_rounds.new.sink) (Err e) (λ never. cc) first)

pub returns-clause-core : goal.returns-clause-core
returns-clause-core g c core is running =
    let k = g.K.Sink in
    let new = c.play_ending.new.heap in
    let between = k.written c.play_rounds.new.sink in
    let after = k.written c.play_ending.new.sink in
    let first = subst (λ (ls : List Line). PlaysCore core (events ls) c.play_rounds.new.heap k.tells (k.written c.args.sink.now) between (Ok tt)) c.new.ensures.lines (c.in_ok-play_rounds.ensures.core core is running) in
    core_then core (events (load_lines c.args.seed c.args.count)) (ending (after_events core (events (load_lines c.args.seed c.args.count)))) c.play_rounds.new.heap new k.tells (k.written c.args.sink.now) between after c.play_ending.result
    (record { running = running; sessions = all_of_session None core (events (load_lines c.args.seed c.args.count)) (load_sessions c.args.seed c.args.count) }) first
    (λ d reached is_core is_ready. subst (λ (x : Core). PlaysCore d (ending x) new k.tells between after c.play_ending.result) reached (c.play_ending.ensures.core d is_core is_ready.running))
