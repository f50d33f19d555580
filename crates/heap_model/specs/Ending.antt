-- The events that end a run: what is active is aborted, and then pending records are forced.
use Rattle.std.specs.Prelude.{ℕ, List, [], ◌∷◌, ◌++◌, Option, None, Some}
use Rattle.std.specs.List.{flat_map}
use Rattle.graph_model.specs.declared.event.Event.{Event}
use Rattle.graph_model.specs.declared.event.Event.TheVariants.{Abort, Force}
use Rattle.graph_model.specs.Transaction.{Transaction}
use Rattle.graph_model.specs.History.{account, sessions}
use Rattle.log_records.specs.declared.Record.{Record}
use Rattle.heap_model.specs.Core.{Core}
use Rattle.heap_model.specs.CoreRuns.{after_events}

-- the abort of a session's transaction, if it has one
abbrev pub abort_of : ℕ → Option Transaction → List Event
abort_of s None = []
abort_of s (Some t) = Abort s ∷ []

-- the force of pending records, if there are any
abbrev pub force_of : List Record → List Event
force_of [] = []
force_of (r ∷ rs) = Force ∷ []

-- each active session aborts, ascending
abbrev pub aborting : Core → List Event
aborting c = flat_map (λ s. abort_of s ((account c.history).active s)) sessions

abbrev pub forcing : Core → List Event
forcing c = force_of c.pending

-- the events that end a run which has reached this core
abbrev pub ending : Core → List Event
ending c = aborting c ++ forcing (after_events c (aborting c))

-- All events of a run from c on: those that were asked for, and then those that end the run. One that is to be stopped has no end of its own.
abbrev pub all_events : Option ℕ → Core → List Event → List Event
all_events None c events = events ++ ending (after_events c events)
all_events (Some n) c events = events
