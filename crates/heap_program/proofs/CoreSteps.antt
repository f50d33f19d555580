-- Laws of the events of a play: what is asked of a valid core, and what was made of it.
use Rattle.std.proofs.Common.{◌≡◌, true, inl, inr, ℕ, ◌≤◌, List, [], ◌∷◌, ◌++◌, Option, Ok, sym, subst, arith}
use Rattle.disk_model.specs.declared.disk.Disk.{Ghosts}
use Rattle.graph_model.specs.declared.event.Event.{Event}
use Rattle.graph_model.specs.Graph.{new_graph}
use Rattle.graph_model.specs.History.{IsOfSession}
use Rattle.script_text.specs.declared.line.Line.{Line}
use Rattle.script_text.specs.Line.{events}
use Rattle.script_text.specs.Script.{script}
use Rattle.script_text.proofs.ScriptLaws.{script_sessions, script_few}
use Rattle.image_plan.specs.Super.{IsSuper}
use Rattle.heap_core.specs.declared.heap.Heap.{Heap}
use Rattle.heap_model.specs.Core.{Core, IsStep, IsRun}
use Rattle.heap_model.specs.CoreRuns.{after_events}
use Rattle.core_laws.proofs.Run.Calls.{reached_events, unfailed_events, of_session_front}
use Rattle.core_laws.proofs.Run.Ending.{all_few, all_of_session}
use Rattle.core_laws.proofs.Opening.Opened.{opened_reached}
use Rattle.core_laws.proofs.Run.Events.{step_reached}
use Rattle.core_laws.specs.Valid.{IsReached}
use Rattle.heap_model.proofs.Step.Calls.{whole_run, run_step}
use Rattle.page_store.specs.Gates.{open_gates}
use Rattle.heap_model.specs.NewHeap.{new_heap, root_place}
use Rattle.heap_model.proofs.Opening.New.{new_legal, new_found}
use Rattle.heap_model.proofs.ListLaws.{AllByRecursion-behind}
use Rattle.heap_model.specs.Ending.{all_events}
use Rattle.heap_program.specs.Headline.{made_super, made_core}
use Rattle.heap_program.specs.Play.{IsRunning, Makes}
use Rattle.heap_program.proofs.Ready.{AreReady}
use Rattle.heap_program.specs.Playable.{IsScript}
use Rattle.heap_program.proofs.Playable.{IsPlayable}

-- the numbers of a new heap with that many pages are good
pub made_limits : (pages : ℕ) → 1 ≤ pages → pages ≤ 16384 → IsSuper (made_super pages)
made_limits pages some few = record { some_pages = some; few_pages = few; some_log = omega arith; small_log = omega arith; some_first = omega arith; small_first = omega arith }

-- a new heap is reached
pub made_reached : (pages : ℕ) (image : List ℕ) → IsSuper (made_super pages) → IsReached (made_core pages image)
made_reached pages image limits = opened_reached (new_heap (made_super pages)) (new_legal (made_super pages) limits).shaped (open_gates 1048576 image) true root_place new_graph (new_found (made_super pages) limits)

-- a core may be asked the first of the events that it may be asked
pub ready_front : (c : Core) (before behind : List Event) → AreReady c (before ++ behind) → AreReady c before
ready_front c before behind ready = record { running = ready.running; sessions = of_session_front before behind ready.sessions }

-- it runs on after events that the disk did
pub running_after : (c : Core) (events : List Event) → AreReady c events → IsRunning (after_events c events)
running_after c events ready = record {
  reached = reached_events c events ready.running.reached ready.sessions;
  unfailed = unfailed_events c events ready.running.reached ready.running.unfailed ready.sessions;
}

-- after the first events the core may be asked the others
pub ready_behind : (c : Core) (before behind : List Event) → AreReady c (before ++ behind) → AreReady (after_events c before) behind
ready_behind c before behind ready = record {
  running = running_after c before (ready_front c before behind ready);
  sessions = AllByRecursion-behind IsOfSession before behind ready.sessions;
}

-- The events that were made are a run, and what they left is reached.
pub makes_run : {D : Type 0} {g : Ghosts D} (c : Core) (made behind : List Event) (d : Core) (old new : Heap D g) → AreReady c (made ++ behind) → Makes c made d old new → IsRun c made d × IsReached d
makes_run c made behind d old new ready (inl all) = (
  subst (λ (x : Core). IsRun c made x) (sym all.reached) (whole_run c made),
  subst IsReached (sym all.reached) (ready_behind c made behind ready).running.reached,
)
makes_run c made behind d old new ready (inr short) =
    let cut = short.1 in
    let mid = after_events c cut.before in
    let step : IsStep mid cut.event short.0 d = inr (cut.cut, cut.reached) in
    let run = run_step c mid d cut.before cut.event short.0 (whole_run c cut.before) step in
    let last = ready_behind c cut.before (cut.event ∷ []) (subst (AreReady c) cut.parts (ready_front c made behind ready)) in
    (subst (λ (l : List Event). IsRun c l d) (sym cut.parts) run, step_reached mid d cut.event short.0 last.running.reached last.sessions.0 step)

-- A script that was read is one.
pub script_is : (bytes : List ℕ) (lines : List Line) → script bytes ≡ Ok lines → IsScript lines
script_is bytes lines is = record { sessions = script_sessions bytes lines is; few = script_few bytes lines is }

-- Its events may be played, with those that end a run.
pub all_playable : (stop : Option ℕ) (c : Core) (lines : List Line) → IsScript lines → IsPlayable (all_events stop c (events lines))
all_playable stop c lines is = record {
  sessions = all_of_session stop c (events lines) is.sessions;
  few = omega (arith, is.few, all_few stop c (events lines));
}
