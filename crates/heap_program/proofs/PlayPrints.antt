-- What a run prints on any disk.
use Rattle.std.proofs.Common.{◌≡◌, ◌≢◌, ◌⊎◌, inl, inr, ⊎_elim, ℕ, Bool, true, List, [], ◌++◌, Option, Some, None, Result, Ok, Err, refl, sym, ◌∙◌, subst, arith}
use Rattle.std.specs.Prelude.{IsTrue}
use Rattle.std.specs.List.{AllByRecursion}
use Rattle.std.proofs.lemmas.List.{append-nil}
use Rattle.disk_model.specs.declared.disk.Disk.{Ghosts}
use Rattle.graph_model.specs.declared.event.Event.{Event}
use Rattle.graph_model.specs.declared.reply.Refusal.TheVariants.{DiskFault, Stopped}
use Rattle.graph_model.specs.declared.reply.Reply.{Reply}
use Rattle.graph_model.specs.declared.reply.Reply.TheVariants.{Refused}
use Rattle.graph_model.specs.Graph.{Graph, new_graph}
use Rattle.graph_model.specs.History.{sealed, IsOfSession}
use Rattle.graph_model.specs.Transaction.{serial}
use Rattle.heap_core.specs.declared.heap.Heap.{Heap}
use Rattle.heap_model.specs.Core.{Core}
use Rattle.core_laws.proofs.Run.Calls.{of_session_front}
use Rattle.core_laws.proofs.Run.Events.{run_reached}
use Rattle.core_laws.specs.Valid.{IsReached}
use Rattle.page_store.specs.Gates.{open_gates}
use Rattle.heap_model.specs.NewHeap.{new_heap, root_place}
use Rattle.heap_model.proofs.Opening.New.{new_legal, new_found}
use Rattle.heap_model.specs.Ending.{all_events}
use Rattle.heap_program.specs.declared.output.WriteError.{WriteError}
use Rattle.heap_program.specs.declared.play.Halt.{Halt}
use Rattle.heap_program.specs.declared.play.Halt.TheVariants as halt
use Rattle.heap_program.specs.declared.status.Status.{Status}
use Rattle.heap_program.specs.declared.status.Status.TheVariants as status
use Rattle.heap_program.proofs.CoreSteps.{made_limits, made_reached, all_playable}
use Rattle.heap_program.proofs.Limits.{limits_law}
use Rattle.heap_program.specs.Headline.{made_super, made_core, graph_text, end_text, recovered_line, HasMade, EndsByDisk, IsOfDisk, PrintsRun, PrintsSome, Writes}
use Rattle.heap_program.specs.Output.{WroteText, WroteGraph, WroteAgain, status_after}
use Rattle.heap_program.specs.Play.{EndsAs, IsCutBy, MadeAll, PlaysCore, Wrote, WroteFront, lines_text}
use Rattle.heap_program.specs.Playable.{IsScript}
use Rattle.heap_program.specs.StatusOf.{halt_status}
use Rattle.heap_program.proofs.Lines.{all_since, halt_part, halt_lines, stopped_lines, some_writes, all_writes, lines_more}
use Rattle.heap_program.proofs.PlayFaults.{none_cut, fault_not_whole, fault_not_stopped}
use Rattle.heap_program.proofs.PlayOpen.{IsNew}
use Rattle.heap_program.proofs.Statuses.{halt_not_done, written_sound, wrote_all}
use Rattle.heap_program.proofs.Written.{whole_front, wrote_some}
use Rattle.script_text.specs.declared.line.Line.{Line}
use Rattle.script_text.specs.Line.{events}
use Rattle.heap_model.specs.Image.{StoredHeap}

-- Some number and graph were written, or nothing.
pub wrote_again : (r : Result (Unit {0}) WriteError) (k : ℕ) (g : Graph) (by : Status) (before after : List ℕ) → by ≡ status_after r → WroteText r before (recovered_line k ++ graph_text g) after → WroteAgain by before after
wrote_again r k g by before after is wrote = inr (k, g, record { sound = λ d. written_sound r (subst IsOfDisk is d); front = wrote_some r before _ after wrote; whole = λ done. wrote_all r before _ after (sym is ∙ done) wrote })

-- The opening was stopped: no event was made.
pub prints_unplayed : {from : StoredHeap → (ℕ → ℕ) → Type 0} (n : ℕ) (script : List Line) (by : Status) (before after : List ℕ) → WroteAgain by before after → PrintsSome from (Some n) script by before after
prints_unplayed n script by before after (inl nothing) = inl nothing
prints_unplayed n script by before after (inr again) =
    let c = made_core 1 [] in
    let limits = made_limits 1 (omega arith) (omega arith) in
    let wrote = again.2 in
    inr (record {
      first = c;
      opened = record { heap = new_heap (made_super 1); gates = open_gates 1048576 []; shaped = (new_legal (made_super 1) limits).shaped; born = true; places = root_place; graph = new_graph; found = new_found (made_super 1) limits; is = refl };
      image = inl ((λ none. cc), refl);
      made = [];
      behind = events script;
      parts = refl;
      core = c;
      run = refl;
      limits = limits_law c (made_reached 1 [] limits) refl [] tt c;
      last = inl refl;
      done = λ is. inr ((λ none. cc), refl);
      failed = λ is. inr (inr refl);
      faulted = λ cut. absurd (none_cut (Refused DiskFault) c c cut);
      count = again.0;
      graph = again.1;
      own = λ none. cc;
      written = all_writes [] before before by (recovered_line again.0 ++ graph_text again.1) after wrote.sound (sym (append-nil before)) wrote.front wrote.whole;
    })

-- A play that the disk ended was cut short in its last event.
halt_failed : (stop : Option ℕ) (c : Core) (made behind : List Event) (d : Core) (h : Halt) → EndsAs c made behind d (Err h) → IsOfDisk (halt_status h) → EndsByDisk stop (halt_status h) c made behind d
halt_failed stop c made behind d halt.NoMemory ends is = absurd is
halt_failed stop c made behind d halt.WriteFault ends is = absurd is
halt_failed None c made behind d halt.DiskFault ends is = (refl, inl ends)
halt_failed None c made behind d halt.Stopped ends is = (refl, inr ends)
halt_failed (Some n) c made behind d halt.DiskFault ends is = inl (refl, ends)
halt_failed (Some n) c made behind d halt.Stopped ends is = inr (inl (inr ends))

-- Only the last event of a play may have been cut short.
last_event : (c : Core) (made behind : List Event) (d : Core) (result : Result (Unit {0}) Halt) → EndsAs c made behind d result → MadeAll c made d ⊎ ((reply : Reply) × IsCutBy reply c made d)
last_event c made behind d (Ok done) ends = inl ends.1
last_event c made behind d (Err halt.NoMemory) ends = ends
last_event c made behind d (Err halt.WriteFault) ends = ends
last_event c made behind d (Err halt.DiskFault) ends = inr (Refused DiskFault, ends)
last_event c made behind d (Err halt.Stopped) ends = inr (Refused Stopped, ends)

module _ {D : Type 0} {g : Ghosts D} {from : StoredHeap → (ℕ → ℕ) → Type 0} (stop : Option ℕ) (c : Core) (new : IsNew from c) (script : List Line) (is_script : IsScript script) (heap : Heap D g) (told : Bool) (before after : List ℕ) (result : Result (Unit {0}) Halt)
    (plays : PlaysCore c (all_events stop c (events script)) heap told before after result) (tells : IsTrue told) where
  abbrev core : Core
  core = plays.core

  sessions : AllByRecursion IsOfSession plays.made
  sessions = of_session_front plays.made plays.behind (subst (AllByRecursion IsOfSession) plays.parts (all_playable stop c script is_script).sessions)

  -- the core that was reached
  pub reached : IsReached core
  reached = run_reached c core plays.made new.running.reached sessions plays.run

  wrote : Wrote result before core.history after
  wrote = all_since result c.history core.history before after new.nothing (plays.written tells)

  prints : (by : Status) (after' : List ℕ) (k : ℕ) (graph : Graph) → (by ≡ status.Done → HasMade stop c plays.made plays.behind core) → (IsOfDisk by → EndsByDisk stop by c plays.made plays.behind core)
      → (IsCutBy (Refused DiskFault) c plays.made core → (by ≢ status.Done) × WroteFront before (lines_text core.history) after') → (stop ≡ None → graph ≡ serial core.g0 (sealed core.history))
      → Writes by core.history (end_text stop k graph) before after' → PrintsSome from stop script by before after'
  prints by after' k graph done failed faulted own written = inr (record {
    first = c;
    opened = new.opened;
    image = inr new.image;
    made = plays.made;
    behind = plays.behind;
    parts = plays.parts;
    core = core;
    run = plays.run;
    limits = limits_law c new.running.reached new.nothing plays.made sessions core;
    last = last_event c plays.made plays.behind core result plays.ends;
    done = λ is. inl (done is);
    failed = failed;
    faulted = faulted;
    count = k;
    graph = graph;
    own = own;
    written = written;
  })

  -- it ended before more than lines were to be written
  pub prints_early : (h : Halt) → result ≡ Err h → PrintsSome from stop script (halt_status h) before after
  prints_early h is =
      let some = subst (λ (r : Result (Unit {0}) Halt). Wrote r before core.history after) is wrote in
      let graph = serial core.g0 (sealed core.history) in
      let part = halt_part core.history before after h some in
      let ends = subst (EndsAs c plays.made plays.behind core) is plays.ends in
      prints (halt_status h) after 0 graph (λ done. absurd (halt_not_done h done)) (halt_failed stop c plays.made plays.behind core h ends) (λ cut. (halt_not_done h, part.0)) (λ none. refl)
      (some_writes core.history before after (halt_status h) (end_text stop 0 graph) after (halt_not_done h) part.0 part.1 (halt_lines core.history before after h some))

-- It was not to stop, and its graph was to be written.
pub prints_whole : {D : Type 0} {g : Ghosts D} {from : StoredHeap → (ℕ → ℕ) → Type 0} (c : Core) (new : IsNew from c) (script : List Line) (is_script : IsScript script) (heap : Heap D g) (told : Bool) (before after : List ℕ)
    (plays : PlaysCore c (all_events None c (events script)) heap told before after (Ok tt)) (tells : IsTrue told) (r : Result (Unit {0}) WriteError) (after' : List ℕ)
    → WroteText r after (graph_text (serial plays.core.g0 (sealed plays.core.history))) after' → PrintsSome from None script (status_after r) before after'
prints_whole c new script is_script heap told before after plays tells r after' text =
    let graph = serial plays.core.g0 (sealed plays.core.history) in
    prints None c new script is_script heap told before after (Ok tt) plays tells (status_after r) after' 0 graph (λ done. plays.ends) (λ is. absurd (written_sound r is))
    (λ cut. absurd (fault_not_whole c plays.core plays.made cut plays.ends.1)) (λ none. refl)
    (all_writes plays.core.history before after (status_after r) (graph_text graph) after' (written_sound r) (wrote None c new script is_script heap told before after (Ok tt) plays tells) (wrote_some r after _ after' text) (λ done. wrote_all r after _ after' done text))

-- It was to stop, and what came back was to be written.
pub prints_again : {D : Type 0} {g : Ghosts D} {from : StoredHeap → (ℕ → ℕ) → Type 0} (n : ℕ) (c : Core) (new : IsNew from c) (script : List Line) (is_script : IsScript script) (heap : Heap D g) (told : Bool) (before after : List ℕ) (result : Result (Unit {0}) Halt)
    (plays : PlaysCore c (events script) heap told before after result) (tells : IsTrue told) (ended : (result ≡ Ok tt) ⊎ (result ≡ Err halt.Stopped)) (by : Status) (after' : List ℕ) → WroteAgain by after after' → PrintsSome from (Some n) script by before after'
prints_again {from = from} n c new script is_script heap told before after result plays tells ended by after' again = ⊎_elim nothing some again
  where
    made : HasMade (Some n) c plays.made plays.behind plays.core
    made = ⊎_elim
        (λ (is : result ≡ Ok tt). inl (subst (EndsAs c plays.made plays.behind plays.core) is plays.ends))
        (λ (is : result ≡ Err halt.Stopped). inr (subst (EndsAs c plays.made plays.behind plays.core) is plays.ends))
        ended

    unfaulted : IsCutBy (Refused DiskFault) c plays.made plays.core → ⊥
    unfaulted cut = ⊎_elim
        (λ (is : result ≡ Ok tt). fault_not_whole c plays.core plays.made cut (subst (EndsAs c plays.made plays.behind plays.core) is plays.ends).1)
        (λ (is : result ≡ Err halt.Stopped). fault_not_stopped c plays.core plays.made cut (subst (EndsAs c plays.made plays.behind plays.core) is plays.ends))
        ended

    out : after ≡ before ++ lines_text plays.core.history
    out = stopped_lines plays.core.history before after result ended (wrote (Some n) c new script is_script heap told before after result plays tells)

    nothing : (by ≢ status.Done) × (after' ≡ after) → PrintsSome from (Some n) script by before after'
    nothing none =
        let graph = serial plays.core.g0 (sealed plays.core.history) in
        let lines = none.1 ∙ out in
        prints (Some n) c new script is_script heap told before after result plays tells by after' 0 graph (λ done. made) (λ is. inr (inl made)) (λ cut. absurd (unfaulted cut)) (λ no. refl)
        (some_writes plays.core.history before after by (end_text (Some n) 0 graph) after' none.0 (whole_front before (lines_text plays.core.history) after' lines) (lines_more plays.core.history before after after' [] out (none.1 ∙ sym (append-nil after))) (λ is. lines))

    some : (k : ℕ) × (graph : Graph) × WroteGraph k graph by after after' → PrintsSome from (Some n) script by before after'
    some wrote_it =
        let text = recovered_line wrote_it.0 ++ graph_text wrote_it.1 in
        prints (Some n) c new script is_script heap told before after result plays tells by after' wrote_it.0 wrote_it.1 (λ done. made) (λ is. inr (inl made)) (λ cut. absurd (unfaulted cut)) (λ no. cc)
        (all_writes plays.core.history before after by text after' wrote_it.2.sound out wrote_it.2.front wrote_it.2.whole)

-- A run of a script that was read, of which less may be said of the image.
pub prints_script : {from less : StoredHeap → (ℕ → ℕ) → Type 0} (read : List Line → Type 0) (stop : Option ℕ) (script : List Line) (by : Status) (before after : List ℕ) → read script
    → ((stored : StoredHeap) (gates : ℕ → ℕ) → from stored gates → less stored gates) → PrintsSome from stop script by before after
    → ((by ≢ status.Done) × (after ≡ before)) ⊎ ((lines : List Line) × read lines × PrintsRun less stop lines by before after)
prints_script read stop script by before after is implies (inl nothing) = inl nothing
prints_script read stop script by before after is implies (inr run) = inr (
  script,
  is,
  record {
    first = run.first;
    opened = run.opened;
    made = run.made;
    image = ⊎_elim (λ none. inl none) (λ own. inr (implies run.opened.heap run.opened.gates own)) run.image;
    behind = run.behind;
    parts = run.parts;
    core = run.core;
    run = run.run;
    limits = run.limits;
    last = run.last;
    done = run.done;
    failed = run.failed;
    faulted = run.faulted;
    count = run.count;
    graph = run.graph;
    own = run.own;
    written = run.written;
  },
)
