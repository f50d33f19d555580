-- Events, one after another, where the disk does not fail.
use Rattle.std.specs.Prelude.{◌≡◌, ℕ, ◌+◌, ◌≤◌, ◌<◌, List, [], ◌∷◌, ◌++◌}
use Rattle.graph_model.specs.declared.event.Event.{Event}
use Rattle.heap_model.specs.Core.{Core, after, calls}

-- the state after these events
abbrev pub after_events : Core → List Event → Core
after_events c [] = c
after_events c (event ∷ events) = after_events (after c event) events

-- their writes and syncs
abbrev pub total_calls : Core → List Event → ℕ
total_calls c [] = 0
total_calls c (event ∷ events) = calls c event + total_calls (after c event) events

-- The place among the events at which a disk that makes n writes and syncs from c on stops.
pub record StopsAt (c : Core) (n : ℕ) (events : List Event) : Type 0 where
  pub before : List Event
  pub event : Event
  pub behind : List Event
  pub parts : events ≡ before ++ event ∷ behind
  pub made : total_calls c before ≤ n
  pub short : n < total_calls c before + calls (after_events c before) event
