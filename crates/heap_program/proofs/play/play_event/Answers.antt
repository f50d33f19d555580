use Rattle.std.proofs.Common.{◌≡◌, [], ◌∷◌, Err, rules, sym, subst}
use Rattle.std.specs.Prelude.{Result}
use Rattle.heap_program.specs.declared.play.Halt.{Halt}
use Rattle.heap_program.specs.declared.play.Halt.TheVariants as halt
use Rattle.heap_program.proofs.Ready.{AreReady}
use Rattle.heap_program.specs.Play.{Plays, PlaysCore}
use Rattle.heap_program.specs.StatusOf.{write_halt}
use Rattle.heap_program.proofs.PlayEvent.{plays_one, plays_unwritten, plays_nothing}
use Rattle.heap_program.proofs.PlayCore.{core_one, core_unwritten, core_nothing}
use Rattle.heap_program.proofs.play.play_event.Goals as goal

pub returns-in_err-reply-clause-plays : goal.returns-in_err-reply-clause-plays
returns-in_err-reply-clause-plays g c tells of core heap running =
    let k = g.K.Sink in
    let err : c.from_residual.result ≡ Err halt.NoMemory = search rules in
    rw err (plays_nothing of core (c.args.event ∷ []) c.args.heap.now c.step.new.self k.tells (k.written c.args.sink.now) heap (c.in_err-reply.ensures.kept core heap.core) c.in_err-reply.ensures.untouched)

pub returns-in_err-write_line-clause-plays : goal.returns-in_err-write_line-clause-plays
returns-in_err-write_line-clause-plays g c tells of core heap running =
    let k = g.K.Sink in
    let e = c.in_err-write_line.field-0.0 in
    let err : c.from_residual-in_err-write_line.result ≡ Err (write_halt e) = search rules in
    let made = c.in_ok-reply.ensures in
    let ready : AreReady core (c.args.event ∷ []) = record { running = running; sessions = (c.requires, tt) } in
    let stepped = made.holds tells of core heap running.reached in
    rw err (plays_unwritten of core stepped.0 c.args.event c.in_ok-reply.reply c.args.heap.now c.step.new.self ready stepped.1 made.disk (made.passes tells core heap.core running.reached) (c.step.ensures.moments tells of core heap running.reached) stepped.2
    k.tells (k.written c.args.sink.now) (k.written c.write_line.new.sink) e c.in_err-write_line.ensures.wrote)

pub returns-clause-plays : goal.returns-clause-plays
returns-clause-plays g c tells of core heap running =
    let k = g.K.Sink in
    let made = c.in_ok-reply.ensures in
    let ready : AreReady core (c.args.event ∷ []) = record { running = running; sessions = (c.requires, tt) } in
    let stepped = made.holds tells of core heap running.reached in
    let P : Result (Unit {0}) Halt → Type 0 = λ r. Plays of core (c.args.event ∷ []) c.args.heap.now c.step.new.self k.tells (k.written c.args.sink.now) (k.written c.write_line.new.sink) r in
    subst P (sym c.ended_by.ensures) (plays_one of core stepped.0 c.args.event c.in_ok-reply.reply c.args.heap.now c.step.new.self ready stepped.1 made.disk (made.passes tells core heap.core running.reached) (c.step.ensures.moments tells of core heap running.reached) stepped.2
    k.tells (k.written c.args.sink.now) (k.written c.write_line.new.sink) c.in_ok-write_line.ensures.wrote)

pub returns-in_err-reply-clause-core : goal.returns-in_err-reply-clause-core
returns-in_err-reply-clause-core g c core is running =
    let k = g.K.Sink in
    let err : c.from_residual.result ≡ Err halt.NoMemory = search rules in
    rw err (core_nothing core (c.args.event ∷ []) c.step.new.self k.tells (k.written c.args.sink.now) (c.in_err-reply.ensures.kept core is))

pub returns-in_err-write_line-clause-core : goal.returns-in_err-write_line-clause-core
returns-in_err-write_line-clause-core g c core is running =
    let k = g.K.Sink in
    let e = c.in_err-write_line.field-0.0 in
    let err : c.from_residual-in_err-write_line.result ≡ Err (write_halt e) = search rules in
    let stepped = c.in_ok-reply.ensures.core core is running.reached in
    rw err (core_unwritten core stepped.0 c.args.event c.in_ok-reply.reply c.step.new.self stepped.1 stepped.2 k.tells (k.written c.args.sink.now) (k.written c.write_line.new.sink) e c.in_err-write_line.ensures.wrote)

pub returns-clause-core : goal.returns-clause-core
returns-clause-core g c core is running =
    let k = g.K.Sink in
    let stepped = c.in_ok-reply.ensures.core core is running.reached in
    let P : Result (Unit {0}) Halt → Type 0 = λ r. PlaysCore core (c.args.event ∷ []) c.step.new.self k.tells (k.written c.args.sink.now) (k.written c.write_line.new.sink) r in
    subst P (sym c.ended_by.ensures) (core_one core stepped.0 c.args.event c.in_ok-reply.reply c.step.new.self stepped.1 stepped.2 k.tells (k.written c.args.sink.now) (k.written c.write_line.new.sink) c.in_ok-write_line.ensures.wrote)
