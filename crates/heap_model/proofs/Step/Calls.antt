-- Laws of events, one after another: the runs that they are, and the device calls that they make.
use Rattle.std.proofs.Common.{◌≡◌, inl, ◌+◌, List, [], ◌∷◌, ◌++◌, refl, subst, arith}
use Rattle.graph_model.specs.declared.event.Event.{Event}
use Rattle.graph_model.specs.declared.reply.Reply.{Reply}
use Rattle.heap_model.specs.Core.{Core, answer, after, IsStep, IsRun}
use Rattle.heap_model.specs.CoreRuns.{after_events, total_calls}

-- the state after more events
pub after_events-append : (c : Core) (before behind : List Event) → after_events c (before ++ behind) ≡ after_events (after_events c before) behind
after_events-append c [] behind = refl
after_events-append c (event ∷ before) behind = after_events-append (after c event) before behind

-- the calls of more events
pub total_calls-append : (c : Core) (before behind : List Event) → total_calls c (before ++ behind) ≡ total_calls c before + total_calls (after_events c before) behind
total_calls-append c [] behind = omega arith
total_calls-append c (event ∷ before) behind = let rest = total_calls-append (after c event) before behind in omega arith

-- where the disk does not fail, the events are a run
pub whole_run : (c : Core) (events : List Event) → IsRun c events (after_events c events)
whole_run c [] = refl
whole_run c (event ∷ events) = (answer c event, after c event, inl (refl, refl), whole_run (after c event) events)

-- two runs, one after the other
pub run_append : (c mid d : Core) (before behind : List Event) → IsRun c before mid → IsRun mid behind d → IsRun c (before ++ behind) d
run_append c mid d [] behind first second = subst (λ (x : Core). IsRun x behind d) first second
run_append c mid d (event ∷ before) behind first second = (first.0, first.1, first.2, run_append first.1 mid d before behind first.3 second)

-- one more step
pub run_step : (c mid d : Core) (events : List Event) (event : Event) (reply : Reply) → IsRun c events mid → IsStep mid event reply d → IsRun c (events ++ event ∷ []) d
run_step c mid d events event reply run step = run_append c mid d events (event ∷ []) run (reply, d, step, refl)
