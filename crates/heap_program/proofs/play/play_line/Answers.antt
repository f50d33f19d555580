use Rattle.std.proofs.Common.{sym, subst}
use Rattle.std.specs.List.{AllByRecursion}
use Rattle.graph_model.specs.History.{IsOfSession}
use Rattle.script_text.specs.declared.line.Line.{Line}
use Rattle.heap_program.specs.Play.{Plays, PlaysCore}
use Rattle.script_text.specs.Line.{line_events}
use Rattle.heap_program.proofs.play.play_line.Goals as goal

-- the line's events are of sessions
abbrev AreOfSessions : Line → Type 0
AreOfSessions line = AllByRecursion IsOfSession (line_events line)

pub play_event-requires : goal.play_event-requires
play_event-requires g c = (subst AreOfSessions c.in-One.is c.requires).0

pub play_commit-requires : goal.play_commit-requires
play_commit-requires g c = (subst AreOfSessions c.in-Commit.is c.requires).0

pub returns-in-One-clause-plays : goal.returns-in-One-clause-plays
returns-in-One-clause-plays g c tells of core heap running =
    let k = g.K.Sink in
    let P : Line → Type 0 = λ l. Plays of core (line_events l) c.args.heap.now c.play_event.new.heap k.tells (k.written c.args.sink.now) (k.written c.play_event.new.sink) c.play_event.result in
    subst P (sym c.in-One.is) (c.play_event.ensures.plays tells of core heap running)

pub returns-in-One-clause-core : goal.returns-in-One-clause-core
returns-in-One-clause-core g c core is running =
    let k = g.K.Sink in
    let P : Line → Type 0 = λ l. PlaysCore core (line_events l) c.play_event.new.heap k.tells (k.written c.args.sink.now) (k.written c.play_event.new.sink) c.play_event.result in
    subst P (sym c.in-One.is) (c.play_event.ensures.core core is running)
