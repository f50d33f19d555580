-- Laws of events of sessions side by side, one after another, where the disk does not fail.
use Rattle.std.proofs.Common.{inl, List, [], ◌∷◌, ◌++◌, refl}
use Rattle.std.specs.List.{AllByRecursion}
use Rattle.graph_model.specs.declared.event.Event.{Event}
use Rattle.graph_model.specs.History.{IsOfSession}
use Rattle.heap_model.specs.Core.{Core, answer, after}
use Rattle.heap_model.proofs.Step.Calls.{whole_run}
use Rattle.heap_model.specs.CoreRuns.{after_events}
use Rattle.core_laws.proofs.Run.Events.{step_reached, run_reached}
use Rattle.core_laws.proofs.Step.Sound.{sound_valid}
use Rattle.core_laws.proofs.Step.Events.{valid_after}
use Rattle.core_laws.specs.Theorems.{StepsTheorem}
use Rattle.core_laws.specs.Valid.{IsValid, IsReached}
use Rattle.core_laws.specs.Ended.{IsUnfailed}

-- Events of sessions reach a core, whichever of them the disk cuts short.
pub steps_law : StepsTheorem
steps_law = run_reached

-- an event of a session reaches a core
pub reached_after : (c : Core) (event : Event) → IsReached c → IsOfSession event → IsReached (after c event)
reached_after c event reached one = step_reached c (after c event) event (answer c event) reached one (inl (refl, refl))

-- and leaves it unfailed
pub unfailed_after : (c : Core) (event : Event) → IsReached c → IsUnfailed c → IsOfSession event → IsUnfailed (after c event)
unfailed_after c event reached unfailed one = (valid_after c event (sound_valid c reached.sound unfailed) reached.locked one).unfailed

-- so do events, one after another
pub reached_events : (c : Core) (events : List Event) → IsReached c → AllByRecursion IsOfSession events → IsReached (after_events c events)
reached_events c events reached all = run_reached c (after_events c events) events reached all (whole_run c events)

-- they leave it unfailed
pub unfailed_events : (c : Core) (events : List Event) → IsReached c → IsUnfailed c → AllByRecursion IsOfSession events → IsUnfailed (after_events c events)
unfailed_events c [] reached unfailed all = unfailed
unfailed_events c (event ∷ events) reached unfailed all =
    unfailed_events (after c event) events (reached_after c event reached all.0) (unfailed_after c event reached unfailed all.0) all.1

-- and valid
pub valid_events : (c : Core) (events : List Event) → IsReached c → IsUnfailed c → AllByRecursion IsOfSession events → IsValid (after_events c events)
valid_events c events reached unfailed all = sound_valid (after_events c events) (reached_events c events reached all).sound (unfailed_events c events reached unfailed all)

-- the first of events that all are of sessions
pub of_session_front : (before behind : List Event) → AllByRecursion IsOfSession (before ++ behind) → AllByRecursion IsOfSession before
of_session_front [] behind all = tt
of_session_front (event ∷ before) behind all = (all.0, of_session_front before behind all.1)
