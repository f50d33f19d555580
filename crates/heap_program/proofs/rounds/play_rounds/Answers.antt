use Rattle.std.proofs.Common.{◌≡◌, List, [], ◌++◌, Ok, Err, rules, refl, sym, ap, ◌∙◌, subst, arith}
use Rattle.std.specs.List.{AllByRecursion}
use Rattle.std.proofs.lemmas.List.{append-nil}
use Rattle.heap_program.proofs.PlaysLaws.{played_none, played_on}
use Rattle.graph_model.specs.History.{IsOfSession}
use Rattle.heap_core.specs.HeapState.{heap_disk}
use Rattle.heap_program.specs.declared.play.Halt.TheVariants as halt
use Rattle.heap_program.specs.Play.{Plays, PlaysCore}
use Rattle.script_text.specs.declared.line.Line.{Line}
use Rattle.script_text.specs.Line.{events}
use Rattle.script_text.specs.Loading.{lines_left}
use Rattle.heap_program.proofs.PlayLaws.{plays_none}
use Rattle.heap_program.proofs.PlayCore.{core_none}
use Rattle.heap_program.proofs.RoundsLaws.{parts_more, round_sessions, core_round, core_round_last, plays_round, plays_round_last, core_refused, plays_refused}
use Rattle.heap_program.proofs.rounds.play_rounds.Goals as goal

pub rounds-init : goal.rounds-init
rounds-init g c = (
  [],
  refl,
  played_none g.D.Disk (heap_disk c.args.heap.now) tt (Unit {0}),
  omega arith,
  (λ core is running. core_none core c.args.heap.now g.K.Sink.tells (g.K.Sink.written c.args.sink.now) is),
  (λ tells of core is running. plays_none of core c.args.heap.now g.K.Sink.tells (g.K.Sink.written c.args.sink.now) is),
)

pub play_lines-requires : goal.play_lines-requires
play_lines-requires g c =
    let so_far = c.rounds.invariant in
    let next = rw c.in-Some.is at c.in_ok-round.ensures.round in
    let rest = lines_left c.next_round.new.self in
    let parts = parts_more (lines_left c.args.load) so_far.0 (lines_left c.rounds.load) c.in-Some.round.items rest so_far.1 next in
    subst (λ (ls : List Line). AllByRecursion IsOfSession (events ls)) (sym c.deref.ensures.value) (round_sessions so_far.0 c.in-Some.round.items rest (lines_left c.args.load) parts c.requires)

pub rounds-preserved : goal.rounds-preserved
rounds-preserved g c =
    let k = g.K.Sink in
    let so_far = c.rounds.invariant in
    let round = c.in-Some.round.items in
    let rest = lines_left c.next_round.new.self in
    let all = lines_left c.args.load in
    let next = rw c.in-Some.is at c.in_ok-round.ensures.round in
    let parts = parts_more all so_far.0 (lines_left c.rounds.load) round rest so_far.1 next in
    let old = c.args.heap.now in
    let mid = c.rounds.heap in
    let new = c.play_lines.new.heap in
    let before = k.written c.args.sink.now in
    let between = k.written c.rounds.sink in
    let after = k.written c.play_lines.new.sink in (
      so_far.0 ++ round,
      parts,
      played_on g.D.Disk _ _ _ (Ok tt) (Ok tt) tt (λ well. refl) so_far.2 c.in_ok-play_lines.ensures.disk,
      omega (arith, so_far.3, c.in_ok-play_lines.ensures.sink.kept),
      (λ core is running. core_round so_far.0 round rest all parts core (record { running = running; sessions = c.requires }) mid new k.tells before between after (Ok tt) (so_far.4 core is running)
          (λ d is_core is_ready. subst (λ (ls : List Line). PlaysCore d (events ls) new k.tells between after (Ok tt)) c.deref.ensures.value (c.in_ok-play_lines.ensures.core d is_core is_ready.running))),
      (λ tells of core heap running. plays_round so_far.0 round rest all parts core (record { running = running; sessions = c.requires }) of old mid new k.tells before between after (Ok tt) (so_far.5 tells of core heap running)
          (λ d is_heap is_ready. subst (λ (ls : List Line). Plays of d (events ls) mid new k.tells between after (Ok tt)) c.deref.ensures.value (c.in_ok-play_lines.ensures.plays tells of d is_heap is_ready.running))
          so_far.2.cause.faults_kept so_far.2.cause.stops_kept),
    )

pub returns-in_err-play_lines-clause-core : goal.returns-in_err-play_lines-clause-core
returns-in_err-play_lines-clause-core g c core is running =
    let k = g.K.Sink in
    let so_far = c.rounds.invariant in
    let round = c.in-Some.round.items in
    let rest = lines_left c.next_round.new.self in
    let all = lines_left c.args.load in
    let next = rw c.in-Some.is at c.in_ok-round.ensures.round in
    let parts = parts_more all so_far.0 (lines_left c.rounds.load) round rest so_far.1 next in
    let mid = c.rounds.heap in
    let new = c.play_lines.new.heap in
    let between = k.written c.rounds.sink in
    let after = k.written c.play_lines.new.sink in
    let e = c.in_err-play_lines.field-0.0 in
    let err : c.from_residual-in_err-play_lines.result ≡ Err e = search rules in
    rw err (core_round_last so_far.0 round rest all parts core (record { running = running; sessions = c.requires }) mid new k.tells (k.written c.args.sink.now) between after (Err e) (so_far.4 core is running)
    (λ d is_core is_ready. subst (λ (ls : List Line). PlaysCore d (events ls) new k.tells between after (Err e)) c.deref.ensures.value (c.in_err-play_lines.ensures.core d is_core is_ready.running)) (λ never. cc))

pub returns-in_err-play_lines-clause-plays : goal.returns-in_err-play_lines-clause-plays
returns-in_err-play_lines-clause-plays g c tells of core heap running =
    let k = g.K.Sink in
    let so_far = c.rounds.invariant in
    let round = c.in-Some.round.items in
    let rest = lines_left c.next_round.new.self in
    let all = lines_left c.args.load in
    let next = rw c.in-Some.is at c.in_ok-round.ensures.round in
    let parts = parts_more all so_far.0 (lines_left c.rounds.load) round rest so_far.1 next in
    let old = c.args.heap.now in
    let mid = c.rounds.heap in
    let new = c.play_lines.new.heap in
    let between = k.written c.rounds.sink in
    let after = k.written c.play_lines.new.sink in
    let e = c.in_err-play_lines.field-0.0 in
    let err : c.from_residual-in_err-play_lines.result ≡ Err e = search rules in
    rw err (plays_round_last so_far.0 round rest all parts core (record { running = running; sessions = c.requires }) of old mid new k.tells (k.written c.args.sink.now) between after (Err e) (so_far.5 tells of core heap running)
    (λ d is_heap is_ready. subst (λ (ls : List Line). Plays of d (events ls) mid new k.tells between after (Err e)) c.deref.ensures.value (c.in_err-play_lines.ensures.plays tells of d is_heap is_ready.running))
    so_far.2.cause.faults_kept so_far.2.cause.stops_kept (λ never. cc))

-- memory ran out for the next round
pub returns-in_err-round-clause-core : goal.returns-in_err-round-clause-core
returns-in_err-round-clause-core g c core is running =
    let k = g.K.Sink in
    let so_far = c.rounds.invariant in
    let err : c.from_residual.result ≡ Err halt.NoMemory = search rules in
    rw err (core_refused so_far.0 (lines_left c.rounds.load) (lines_left c.args.load) so_far.1 core (record { running = running; sessions = c.requires }) k.tells (k.written c.args.sink.now) (k.written c.rounds.sink) c.rounds.heap (so_far.4 core is running))

pub returns-in_err-round-clause-plays : goal.returns-in_err-round-clause-plays
returns-in_err-round-clause-plays g c tells of core heap running =
    let k = g.K.Sink in
    let so_far = c.rounds.invariant in
    let err : c.from_residual.result ≡ Err halt.NoMemory = search rules in
    rw err (plays_refused so_far.0 (lines_left c.rounds.load) (lines_left c.args.load) so_far.1 core (record { running = running; sessions = c.requires }) k.tells (k.written c.args.sink.now) (k.written c.rounds.sink) of c.args.heap.now c.rounds.heap (so_far.5 tells of core heap running) so_far.2.cause.faults_kept so_far.2.cause.stops_kept)

-- no round is left
pub returns-clause-core : goal.returns-clause-core
returns-clause-core g c core is running =
    let k = g.K.Sink in
    let so_far = c.rounds.invariant in
    let none : lines_left c.rounds.load ≡ [] = c.in_ok-round.ensures.end c.in_default.is in
    let all : so_far.0 ≡ lines_left c.args.load = sym (so_far.1 ∙ ap (λ (ls : List Line). so_far.0 ++ ls) none ∙ append-nil so_far.0) in
    subst (λ (ls : List Line). PlaysCore core (events ls) c.rounds.heap k.tells (k.written c.args.sink.now) (k.written c.rounds.sink) (Ok tt)) all (so_far.4 core is running)

pub returns-clause-plays : goal.returns-clause-plays
returns-clause-plays g c tells of core heap running =
    let k = g.K.Sink in
    let so_far = c.rounds.invariant in
    let none : lines_left c.rounds.load ≡ [] = c.in_ok-round.ensures.end c.in_default.is in
    let all : so_far.0 ≡ lines_left c.args.load = sym (so_far.1 ∙ ap (λ (ls : List Line). so_far.0 ++ ls) none ∙ append-nil so_far.0) in
    subst (λ (ls : List Line). Plays of core (events ls) c.args.heap.now c.rounds.heap k.tells (k.written c.args.sink.now) (k.written c.rounds.sink) (Ok tt)) all (so_far.5 tells of core heap running)
