use Rattle.std.proofs.Common.{◌≡◌, [], ◌∷◌, Err, rules}
use Rattle.graph_model.specs.declared.event.Event.TheVariants.{Seal, Force}
use Rattle.heap_program.proofs.PlayLaws.{plays_on, plays_then}
use Rattle.heap_program.proofs.PlayCore.{core_on, core_then}
use Rattle.heap_program.proofs.play.play_commit.Goals as goal

pub returns-in_err-play_event-clause-plays : goal.returns-in_err-play_event-clause-plays
returns-in_err-play_event-clause-plays g c tells of core heap running =
    let k = g.K.Sink in
    let e = c.in_err-play_event.field-0.0 in
    let err : c.from_residual.result ≡ Err e = search rules in
    let first = c.in_err-play_event.ensures.plays tells of core heap running in
    rw err (plays_on of core (Seal c.args.s ∷ []) (Force ∷ []) c.args.heap.now c.play_event.new.heap k.tells (k.written c.args.sink.now) (k.written c.play_event.new.sink) (Err e) (λ never. cc) first)

pub returns-clause-plays : goal.returns-clause-plays
returns-clause-plays g c tells of core heap running =
    let k = g.K.Sink in
    let first = c.in_ok-play_event.ensures.plays tells of core heap running in
    plays_then of core (Seal c.args.s ∷ []) (Force ∷ []) c.args.heap.now c.play_event.new.heap c.play_event-2.new.heap k.tells (k.written c.args.sink.now) (k.written c.play_event.new.sink) (k.written c.play_event-2.new.sink)
    c.play_event-2.result (record { running = running; sessions = (c.requires, (tt, tt)) }) first (λ d reached is_heap is_ready. c.play_event-2.ensures.plays tells of d is_heap is_ready.running) c.play_event.ensures.disk.cause.faults_kept c.play_event.ensures.disk.cause.stops_kept

pub returns-in_err-play_event-clause-core : goal.returns-in_err-play_event-clause-core
returns-in_err-play_event-clause-core g c core is running =
    let k = g.K.Sink in
    let e = c.in_err-play_event.field-0.0 in
    let err : c.from_residual.result ≡ Err e = search rules in
    let first = c.in_err-play_event.ensures.core core is running in
    rw err (core_on core (Seal c.args.s ∷ []) (Force ∷ []) c.play_event.new.heap k.tells (k.written c.args.sink.now) (k.written c.play_event.new.sink) (Err e) (λ never. cc) first)

pub returns-clause-core : goal.returns-clause-core
returns-clause-core g c core is running =
    let k = g.K.Sink in
    let first = c.in_ok-play_event.ensures.core core is running in
    core_then core (Seal c.args.s ∷ []) (Force ∷ []) c.play_event.new.heap c.play_event-2.new.heap k.tells (k.written c.args.sink.now) (k.written c.play_event.new.sink) (k.written c.play_event-2.new.sink)
    c.play_event-2.result (record { running = running; sessions = (c.requires, (tt, tt)) }) first (λ d reached is_core is_ready. c.play_event-2.ensures.core d is_core is_ready.running)
