-- Events that a play can make.
use Rattle.std.specs.Prelude.{◌≤◌, List, length}
use Rattle.std.specs.List.{AllByRecursion}
use Rattle.graph_model.specs.declared.event.Event.{Event}
use Rattle.graph_model.specs.History.{IsOfSession}

-- Each event is of a session, or of none, and they are no more than those of the longest script and the 33 that may end a run, one for
-- each session and a force: they make fewer device calls than can be counted.
pub record IsPlayable (events : List Event) : Type 0 where
  pub sessions : AllByRecursion IsOfSession events
  pub few : length events ≤ 2097185
