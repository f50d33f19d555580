-- Events that a play may make next.
use Rattle.std.specs.Prelude.{List}
use Rattle.std.specs.List.{AllByRecursion}
use Rattle.graph_model.specs.declared.event.Event.{Event}
use Rattle.graph_model.specs.History.{IsOfSession}
use Rattle.heap_model.specs.Core.{Core}
use Rattle.heap_program.specs.Play.{IsRunning}

-- Events that a core may be asked one after another: each is of a session, or of none.
pub record AreReady (c : Core) (events : List Event) : Type 0 where
  pub running : IsRunning c
  pub sessions : AllByRecursion IsOfSession events
