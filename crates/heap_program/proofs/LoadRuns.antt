-- What is said of a run of a load, from what its parts promise.
use Rattle.std.proofs.Common.{◌≡◌, inr, ⊎_elim, ℕ, ◌<◌, ◌≤◌, Bool, List, [], ◌++◌, None, Result, Ok, Err, refl, sym, ap, ◌∙◌, subst, arith}
use Rattle.std.specs.List.{AllByRecursion}
use Rattle.std.proofs.lemmas.List.{append-nil}
use Rattle.counts.specs.Count.{Rose}
use Rattle.disk_model.specs.declared.disk.Disk.{Ghosts}
use Rattle.graph_model.specs.declared.event.Event.{Event}
use Rattle.graph_model.specs.History.{IsOfSession}
use Rattle.heap_core.specs.declared.heap.Heap.{Heap}
use Rattle.heap_model.specs.Core.{Core, IsRun}
use Rattle.heap_model.specs.Ending.{all_events}
use Rattle.core_laws.proofs.Run.Calls.{of_session_front}
use Rattle.core_laws.proofs.Run.Events.{run_reached}
use Rattle.core_laws.specs.Valid.{IsReached}
use Rattle.script_text.specs.Line.{events}
use Rattle.script_text.specs.Load.{load_lines}
use Rattle.script_text.proofs.LoadLaws.{load_sessions, load_few}
use Rattle.heap_program.specs.declared.output.WriteError.{WriteError}
use Rattle.heap_program.specs.declared.play.Halt.{Halt}
use Rattle.heap_program.specs.declared.play.Halt.TheVariants as halt
use Rattle.heap_program.specs.declared.status.Status.{Status}
use Rattle.heap_program.specs.declared.status.Status.TheVariants as status
use Rattle.heap_program.proofs.CoreSteps.{all_playable}
use Rattle.heap_program.proofs.Limits.{limits_law}
use Rattle.heap_program.specs.Headline.{IsOpened}
use Rattle.heap_program.specs.Load.{WritesSummary, SummarizesSome, core_summary, summary_text}
use Rattle.heap_program.specs.Output.{WroteText, status_after}
use Rattle.heap_program.specs.Play.{IsRunning, PlaysCore}
use Rattle.heap_program.specs.Playable.{IsScript}
use Rattle.heap_program.specs.StatusOf.{halt_status}
use Rattle.heap_program.proofs.Statuses.{written_sound, wrote_all}
use Rattle.heap_program.proofs.Written.{none_written, wrote_some}

-- The lines of a load may be played as those of a script.
pub load_is : (seed count : ℕ) → count ≤ 100000 → IsScript (load_lines seed count)
load_is seed count few = record { sessions = load_sessions seed count; few = omega (arith, load_few seed count) }

-- no summary was written of a run that isn't done
pub unwritten_summary : (by : Status) (text before : List ℕ) → (by ≡ status.Done → ⊥) → WritesSummary by text before before
unwritten_summary by text before not_done = record {
  printed = record { front = none_written before text; whole = λ done. absurd (not_done done) };
  fault = λ is. refl;
}

-- one that was to be written
pub wrote_summary : (r : Result (Unit {0}) WriteError) (before text after : List ℕ) → WroteText r before text after → WritesSummary (status_after r) text before after
wrote_summary r before text after wrote = record {
  printed = record { front = wrote_some r before text after wrote; whole = λ done. wrote_all r before text after done wrote };
  fault = λ is. absurd (written_sound r is);
}

-- a play that halted
abbrev pub halted : Halt → Result (Unit {0}) Halt
halted h = Err h

-- a play whose lines a sink took ends in no fault of that sink
pub no_line_failed : (h : Halt) → halt_status h ≡ status.WriteFault → (halted h ≡ halted halt.WriteFault → Rose 0 0) → ⊥
no_line_failed halt.NoMemory is cause = cc
no_line_failed halt.WriteFault is cause = ⊎_elim (λ (less : 0 < 0). omega arith) (λ (most : 18446744073709551615 ≤ 0). omega arith) (cause refl)
no_line_failed halt.DiskFault is cause = cc
no_line_failed halt.Stopped is cause = cc

module _ {D : Type 0} {g : Ghosts D} (c : Core) (seed count : ℕ) (heap : Heap D g) (told : Bool) (before after : List ℕ) where
  abbrev all : List Event
  all = all_events None c (events (load_lines seed count))

  -- what a load has led to is reached
  pub load_reached : count ≤ 100000 → IsRunning c → (plays : PlaysCore c all heap told before after (Ok tt)) → IsReached plays.core
  load_reached few running plays =
      let sessions = (all_playable None c (load_lines seed count) (load_is seed count few)).sessions in
      run_reached c plays.core plays.made running.reached (of_session_front plays.made plays.behind (subst (AllByRecursion IsOfSession) plays.parts sessions)) plays.run

  whole_run : (plays : PlaysCore c all heap told before after (Ok tt)) → IsRun c all plays.core
  whole_run plays =
      let same : all ≡ plays.made = plays.parts ∙ ap (λ (l : List Event). plays.made ++ l) plays.ends.0 ∙ append-nil plays.made in
      subst (λ (l : List Event). IsRun c l plays.core) (sym same) plays.run

-- On any disk its summary was written, or a prefix of it.
pub summarizes : {D : Type 0} {g : Ghosts D} (c : Core) → IsRunning c → c.history ≡ [] → IsOpened c → (seed count : ℕ) → count ≤ 100000 → (heap : Heap D g) (told : Bool) (before after : List ℕ) (plays : PlaysCore c (all_events None c (events (load_lines seed count))) heap told before after (Ok tt))
    (r : Result (Unit {0}) WriteError) (from to : List ℕ) → WroteText r from (summary_text (core_summary seed count plays.core)) to → SummarizesSome seed count (status_after r) from to
summarizes c running nothing opened seed count few heap told before after plays r from to wrote = inr (record {
  first = c;
  opened = opened;
  core = plays.core;
  run = whole_run c seed count heap told before after plays;
  limits = limits_law c running.reached nothing (all_events None c (events (load_lines seed count))) (all_playable None c (load_lines seed count) (load_is seed count few)).sessions plays.core;
  written = (wrote_summary r from _ to wrote).printed;
})
