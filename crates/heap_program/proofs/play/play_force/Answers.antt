use Rattle.std.proofs.Common.{◌≡◌, true, false, List, Ok, rules, sym, subst}
use Rattle.graph_model.specs.declared.event.Event.{Event}
use Rattle.heap_program.specs.Play.{Plays, PlaysCore}
use Rattle.heap_program.proofs.PlayEnding.{force_of-none, force_of-some}
use Rattle.heap_program.proofs.PlayLaws.{plays_none}
use Rattle.heap_program.proofs.PlayCore.{core_none}
use Rattle.heap_program.proofs.play.play_force.Goals as goal

pub returns-then-not-pending-clause-plays : goal.returns-then-not-pending-clause-plays
returns-then-not-pending-clause-plays g c tells of core heap running =
    let k = g.K.Sink in
    let old = c.args.heap.now in
    let before = k.written c.args.sink.now in
    let off : c.pending.result ≡ false = search rules in
    let none = force_of-none core.pending c.pending.result (c.pending.ensures core heap.core) off in
    subst (λ (l : List Event). Plays of core l old old k.tells before before (Ok tt)) (sym none) (plays_none of core old k.tells before heap)

pub returns-clause-plays : goal.returns-clause-plays
returns-clause-plays g c tells of core heap running =
    let k = g.K.Sink in
    let on : c.pending.result ≡ true = search rules in
    let some = force_of-some core.pending c.pending.result (c.pending.ensures core heap.core) on in
    subst (λ (l : List Event). Plays of core l c.args.heap.now c.play_event.new.heap k.tells (k.written c.args.sink.now) (k.written c.play_event.new.sink) c.play_event.result) (sym some)
    (c.play_event.ensures.plays tells of core heap running)

pub returns-then-not-pending-clause-core : goal.returns-then-not-pending-clause-core
returns-then-not-pending-clause-core g c core is running =
    let k = g.K.Sink in
    let before = k.written c.args.sink.now in
    let off : c.pending.result ≡ false = search rules in
    let none = force_of-none core.pending c.pending.result (c.pending.ensures core is) off in
    subst (λ (l : List Event). PlaysCore core l c.args.heap.now k.tells before before (Ok tt)) (sym none) (core_none core c.args.heap.now k.tells before is)

pub returns-clause-core : goal.returns-clause-core
returns-clause-core g c core is running =
    let k = g.K.Sink in
    let on : c.pending.result ≡ true = search rules in
    let some = force_of-some core.pending c.pending.result (c.pending.ensures core is) on in
    subst (λ (l : List Event). PlaysCore core l c.play_event.new.heap k.tells (k.written c.args.sink.now) (k.written c.play_event.new.sink) c.play_event.result) (sym some)
    (c.play_event.ensures.core core is running)
