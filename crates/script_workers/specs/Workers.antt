-- Which worker makes which line of a script.
use Rattle.std.specs.Prelude.{◌≡◌, ◌==◌, ℕ, List, filter}
use Rattle.std.specs.List.{AllByRecursion}
use Rattle.graph_model.specs.declared.event.Event.{Event}
use Rattle.graph_model.specs.declared.event.Event.TheVariants.{Force}
use Rattle.graph_model.specs.Kinds.{Kind, Collects, Saves, kind_of}
use Rattle.graph_model.specs.History.{session_of}
use Rattle.heap_workers.specs.declared.worker.Worker.{Worker}
use Rattle.script_text.specs.declared.line.Line.{Line}
use Rattle.script_text.specs.declared.line.Line.TheVariants.{One, Commit}
use Rattle.script_text.specs.Line.{events}

-- the worker that makes events of this kind and this session: its session's, 33 for the collector, 34 for the flusher
abbrev pub worker_of_kind : Kind → ℕ → ℕ
worker_of_kind Collects s = 33
worker_of_kind Saves s = 34
worker_of_kind kind s = s

-- the worker that makes an event that stands alone
abbrev pub worker_of_event : Event → ℕ
worker_of_event event = worker_of_kind (kind_of event) (session_of event)

-- the worker that makes the events of a line; those of a commit are its session's, also the force
abbrev pub worker_of : Line → ℕ
worker_of (One event) = worker_of_event event
worker_of (Commit s) = s

-- the events that a worker makes of a script
abbrev pub worker_events : ℕ → List Line → List Event
worker_events number lines = events (filter (λ line. worker_of line == number) lines)

-- An event is for this worker: it is one of those that it makes where they stand alone, or a force, since each commit has one.
abbrev pub IsFor : ℕ → Event → Type 0
IsFor number Force = Unit {0}
IsFor number event = worker_of_event event ≡ number

-- It is the worker with this number of a script.
pub record IsOfScript (tries : ℕ) (lines : List Line) (number : ℕ) (worker : Worker) : Type 0 where
  pub number_is : worker.number ≡ number
  pub tries_are : worker.tries ≡ tries
  pub events_are : worker.events.items ≡ worker_events number lines
  pub own : AllByRecursion (IsFor number) worker.events.items
