-- What a run of workers makes of an open heap, with the events that end it and what it writes.
use Rattle.std.proofs.Common.{◌≡◌, ◌≢◌, ◌⊎◌, inl, inr, ⊎_elim, ℕ, ◌+◌, Bool, true, false, List, [], ◌++◌, length, None, Result, Ok, Err, refl, sym, ap, ◌∙◌, subst, arith}
use Rattle.std.specs.Prelude.{IsTrue, IsOk, IsErr}
use Rattle.std.specs.Result.{is_err}
use Rattle.std.proofs.lemmas.Bool.{false≢true}
use Rattle.std.specs.List.{AllByRecursion}
use Rattle.std.specs.declared.alloc.AllocError.{AllocError}
use Rattle.disk_model.specs.declared.disk.Disk.{Ghosts}
use Rattle.graph_model.specs.declared.event.Event.{Event}
use Rattle.graph_model.specs.declared.reply.Entry.{Entry}
use Rattle.graph_model.specs.History.{account, IsOfSession}
use Rattle.image_plan.specs.declared.superblock.Super.{Super}
use Rattle.heap_core.specs.declared.heap.Heap.{Heap}
use Rattle.heap_core.specs.HeapState.{failed_at, heap_disk, history_of}
use Rattle.heap_core.specs.Refinement.{IsCore, IsHeap}
use Rattle.heap_core.specs.Steps.{HeapStep, AreSteps}
use Rattle.heap_core.proofs.StepsLaws.{steps_append}
use Rattle.heap_model.specs.Core.{Core, IsRun}
use Rattle.heap_model.specs.Ending.{ending}
use Rattle.script_text.specs.declared.line.Line.{Line}
use Rattle.thread_play.specs.Worked.{IsWorked}
use Rattle.heap_program.specs.declared.status.Status.{Status}
use Rattle.heap_program.specs.declared.status.Status.TheVariants as status
use Rattle.core_laws.specs.Valid.{IsReached}
use Rattle.core_laws.proofs.Run.Calls.{of_session_front}
use Rattle.core_laws.proofs.Run.Ending.{ending_of_session}
use Rattle.core_laws.proofs.Run.Events.{run_reached}
use Rattle.disk_model.proofs.KeepsLaws.{rose_until}
use Rattle.thread_play.specs.Follows.{events_of, StaysDisk, Reaches, ReachesOn, Follows}
use Rattle.heap_program.specs.Causes.{DiskRose, CountsStay}
use Rattle.heap_program.proofs.Causes.{disk_rose_since}
use Rattle.heap_program.specs.Headline.{IsEndOfPlay}
use Rattle.heap_program.specs.Play.{IsRunning, MadeAll}
use Rattle.thread_program.specs.Ended.{EndsBy}
use Rattle.thread_program.specs.Together.{IsCutAmong, RunsByWorkers, StepsTogether}
use Rattle.thread_program.specs.Written.{WritesAll}
use Rattle.thread_program.proofs.CauseLaws.{failed_caused, unfailed_uncut}
use Rattle.thread_program.proofs.ChainLaws.{Whole, Short, ChainEnds, chain_ends, heap_run}
use Rattle.thread_program.proofs.EndedLaws.{is_none}
use Rattle.thread_program.proofs.WrittenLaws.{writes_nothing}
use Rattle.thread_program.proofs.MadeLaws.{of_all, made_together, cut_run, last_all, whole_unfailed}
use Rattle.thread_program.proofs.PrintsLaws.{runs_by}

-- No event that ends a run is made if a worker ran out of memory.
abbrev pub ends_at_once : (c : Core) (r : Result (Unit {0}) AllocError) (rose : Type 0) (reaches : List Event → Core → Type 0) → is_err r ≡ true → reaches [] c → EndsBy c r rose reaches
ends_at_once c r rose reaches err reached = record {
  made = [];
  unmade = ending c;
  core = c;
  reached = reached;
  parts = refl;
  none = λ failed. refl;
  all = λ ok. absurd (false≢true (sym (ap is_err ok) ∙ err));
  cause = λ ok. absurd (false≢true (sym (ap is_err ok) ∙ err));
}

-- How a run continues after its workers, and what it writes.
pub record GoesOn (end r : Result (Unit {0}) AllocError) (made : List Event) (core : Core) (result : Status) (told : Bool) (before after : List ℕ) : Type 0 where
  pub none : IsErr end → made ≡ []
  pub refused : IsErr end → result ≡ status.NoMemory
  pub whole : result ≢ status.NoMemory → r ≡ Ok tt
  pub done : result ≡ status.Done → IsOk end × ((account core.history).failed ≡ None)
  pub failed : result ≡ status.DiskFault → (account core.history).failed ≢ None
  pub is_end : IsEndOfPlay result
  pub written : IsTrue told → WritesAll core result before after
  pub nothing : IsErr end → IsTrue told → after ≡ before
  pub late : IsTrue told → (after ≡ before) ⊎ (r ≡ Ok tt)

-- one that has no error is done
pub ok_is : (r : Result (Unit {0}) AllocError) → is_err r ≡ false → (r ≡ Ok tt) × IsOk r
ok_is (Ok done) none = (refl, refl)
ok_is (Err e) none = absurd (false≢true (sym none))

-- memory ran out, and nothing is written
pub goes_refused : (end r : Result (Unit {0}) AllocError) (made : List Event) (core : Core) (told : Bool) (before : List ℕ) → (IsErr end → made ≡ []) → GoesOn end r made core status.NoMemory told before before
goes_refused end r made core told before none = record {
  none = none;
  refused = λ err. refl;
  whole = λ other. absurd (other refl);
  done = λ is. cc;
  failed = λ is. cc;
  is_end = tt;
  written = λ t. writes_nothing core before;
  nothing = λ err t. refl;
  late = λ t. inl refl;
}

-- the history and its graph are written
pub goes_written : {D : Type 0} {g : Ghosts D} (end r : Result (Unit {0}) AllocError) (made : List Event) (core : Core) (result : Status) (told : Bool) (before after : List ℕ) (new : Heap D g) → IsCore core new → IsReached core
    → is_err end ≡ false → is_err r ≡ false → IsEndOfPlay result → (result ≡ status.DiskFault → failed_at new ≢ None) → (result ≡ status.Done → failed_at new ≡ None)
    → (IsTrue told → (c : Core) → IsCore c new → IsReached c → WritesAll c result before after) → GoesOn end r made core result told before after
goes_written end r made core result told before after new is reached sent all is_end failed done wrote = record {
  none = λ err. absurd (false≢true (sym sent ∙ err));
  refused = λ err. absurd (false≢true (sym sent ∙ err));
  whole = λ other. (ok_is r all).0;
  done = λ ok. ((ok_is end sent).1, sym is.memory.failure ∙ done ok);
  failed = λ fault none. failed fault (is.memory.failure ∙ none);
  is_end = is_end;
  written = λ t. wrote t core is reached;
  nothing = λ err. absurd (false≢true (sym sent ∙ err));
  late = λ t. inr (ok_is r all).0;
}

module _ (tries : ℕ) (lines : List Line) (c : Core) (running : IsRunning c) (new : c.history ≡ []) (sent : List Event) (between : Core) (run : IsRun c sent between) (of : AllByRecursion IsOfSession sent)
    (end : Result (Unit {0}) AllocError) (worked : IsWorked tries lines (length c.history) between.history end)
    (r : Result (Unit {0}) AllocError) (rose : Type 0) (reaches : List Event → Core → Type 0) (ended : EndsBy between r rose reaches) (rest : IsRun between ended.made ended.core)
    (result : Status) (told : Bool) (before after : List ℕ) (goes : GoesOn end r ended.made ended.core result told before after) where
  abbrev pub all_made : List Event
  all_made = sent ++ ended.made

  pub of_made : AllByRecursion IsOfSession all_made
  of_made = of_all c running.reached running.unfailed sent between run of ended.made ended.unmade ended.core rest ended.parts ended.none end goes.none

  pub cut_here : MadeAll c all_made ended.core ⊎ IsCutAmong c all_made ended.core
  cut_here = cut_run c running.reached running.unfailed sent between run of ended.made ended.unmade ended.core rest ended.parts ended.none end goes.none

  abbrev pub runs_with : MadeAll c all_made ended.core ⊎ IsCutAmong c all_made ended.core → RunsByWorkers tries lines c result told before after
  runs_with cut =
      runs_by c running new tries lines all_made ended.core of_made result told before after
      (made_together c running.reached running.unfailed sent between run of ended.made ended.unmade ended.core rest ended.parts ended.none end goes.none tries lines result worked goes.refused
      (λ other. ended.all (goes.whole other)) goes.done cut)
      goes.is_end goes.failed goes.written goes.nothing (λ t whole. ⊎_elim
      (λ (none : after ≡ before). inl none)
      (λ (ok : r ≡ Ok tt). inr (last_all c running.reached running.unfailed sent between run of ended.made ended.unmade ended.core rest ended.parts ended.none end goes.none (ended.all ok)
      (whole_unfailed c running.reached running.unfailed sent between run of ended.made ended.unmade ended.core rest ended.parts ended.none end goes.none whole)))
      (goes.late t))

module _ {D : Type 0} {g : Ghosts D} (tries : ℕ) (lines : List Line) (s : Super) (c : Core) (running : IsRunning c) (fresh : c.history ≡ []) (old mid new : Heap D g) (sent : List Event) (between : Core) (of : AllByRecursion IsOfSession sent)
    (steps : AreSteps (HeapStep g) c (heap_disk old) sent between (heap_disk mid)) (run : IsRun c sent between) (end : Result (Unit {0}) AllocError) (worked : IsWorked tries lines (length c.history) between.history end)
    (r : Result (Unit {0}) AllocError) (rose : Type 0)
    (ended : EndsBy between r rose (λ made core. AreSteps (HeapStep g) between (heap_disk mid) made core (heap_disk new) × IsHeap s core new)) (rest : IsRun between ended.made ended.core)
    (result : Status) (told : Bool) (before after : List ℕ) (goes : GoesOn end r ended.made ended.core result told before after) where
  abbrev reaches : List Event → Core → Type 0
  reaches made core = AreSteps (HeapStep g) between (heap_disk mid) made core (heap_disk new) × IsHeap s core new

  abbrev made : List Event
  made = sent ++ ended.made

  abbrev core : Core
  core = ended.core

  chain : AreSteps (HeapStep g) c (heap_disk old) made core (heap_disk new)
  chain = steps_append (HeapStep g) c between core (heap_disk old) (heap_disk mid) (heap_disk new) sent ended.made steps ended.reached.0

  ends : ChainEnds g c made core (heap_disk old) (heap_disk new)
  ends = chain_ends g c core (heap_disk old) (heap_disk new) made running.reached running.unfailed
      (of_made tries lines c running fresh sent between run of end worked r rose reaches ended rest result told before after goes) chain

  abbrev runs : MadeAll c made core ⊎ IsCutAmong c made core → RunsByWorkers tries lines c result told before after
  runs = runs_with tries lines c running fresh sent between run of end worked r rose reaches ended rest result told before after goes

  pub steps_together : StepsTogether tries lines s c old new result told before after
  steps_together = ⊎_elim
      (λ (all : Whole g c made core (heap_disk old) (heap_disk new)). record { runs = runs (inl all.0); steps = chain; heap = ended.reached.1; most = omega (arith, all.2) })
      (λ (cut : Short g c made core (heap_disk old) (heap_disk new)). record { runs = runs (inr cut.0); steps = chain; heap = ended.reached.1; most = cut.3 })
      ends

-- The workers left a heap that continues from the one that was opened.
module _ {D : Type 0} {g : Ghosts D} (c : Core) (running : IsRunning c) (old mid new : Heap D g) (f : Follows old mid) where
  abbrev pub sent_by : List Event
  sent_by = events_of f.since

  -- an event that ends a run is of a session
  ending_front : (between : Core) (made unmade : List Event) → ending between ≡ made ++ unmade → AllByRecursion IsOfSession made
  ending_front between made unmade parts = of_session_front made unmade (subst (AllByRecursion IsOfSession) parts (ending_of_session between))

  module _ (is : IsCore c old) where
    abbrev pub reach : Reaches c f.since (λ d. IsCore d mid)
    reach = f.core c is running.reached

    pub reached_mid : IsReached reach.core
    reached_mid = run_reached c reach.core sent_by running.reached f.sessions reach.run

    abbrev pub EndsCore : Result (Unit {0}) AllocError → Type 0 → Type 0
    EndsCore r rose = EndsBy reach.core r rose (λ made core. IsRun reach.core made core × IsCore core new)

    module _ (r : Result (Unit {0}) AllocError) (rose : Type 0) (ended : EndsCore r rose) where
      pub reached_end : IsReached ended.core
      reached_end = run_reached reach.core ended.core ended.made reached_mid (ending_front reach.core ended.made ended.unmade ended.parts) ended.reached.0

      -- On any disk.
      pub core_together : (tries : ℕ) (lines : List Line) → c.history ≡ [] → (end : Result (Unit {0}) AllocError) → IsWorked tries lines (length (history_of old)) (history_of mid) end
          → (result : Status) (told : Bool) (before after : List ℕ) → GoesOn end r ended.made ended.core result told before after → (runs : RunsByWorkers tries lines c result told before after) × IsCore runs.core new
      core_together tries lines fresh end worked result told before after goes =
          let own : IsWorked tries lines (length c.history) reach.core.history end =
          subst (λ (h : List Entry). IsWorked tries lines (length h) reach.core.history end) is.history (subst (λ (h : List Entry). IsWorked tries lines (length (history_of old)) h end) reach.is.history worked) in
          let reaches : List Event → Core → Type 0 = λ made core. IsRun reach.core made core × IsCore core new in (
            runs_with tries lines c running fresh sent_by reach.core reach.run f.sessions end own r rose reaches ended ended.reached.0 result told before after goes
                (cut_here tries lines c running fresh sent_by reach.core reach.run f.sessions end own r rose reaches ended ended.reached.0 result told before after goes),
            ended.reached.1,
          )

    -- why the heap has failed in the end
    pub ends_caused : (r : Result (Unit {0}) AllocError) → is_err r ≡ false → StaysDisk g (heap_disk mid) (heap_disk new)
        → EndsCore r (DiskRose (g.faults (heap_disk mid)) (g.stops (heap_disk mid)) (g.faults (heap_disk new)) (g.stops (heap_disk new))) → failed_at new ≢ None
        → DiskRose (g.faults (heap_disk old)) (g.stops (heap_disk old)) (g.faults (heap_disk new)) (g.stops (heap_disk new))
    ends_caused r all keeps ended failed =
        let first = f.disk in
        let second = keeps in
        let core_failed : (account ended.core.history).failed ≢ None = λ none. failed (ended.reached.1.memory.failure ∙ none) in
        elim (is_none (account reach.core.history).failed) [
          | inl unfailed ↦ disk_rose_since _ _ _ _ _ _ first.faults_kept first.stops_kept second.faults_kept second.stops_kept (ended.cause (ok_is r all).0 unfailed core_failed)
          | inr before ↦
              let began : (account (history_of old)).failed ≡ None = ap (λ (h : List Entry). (account h).failed) is.history ∙ running.unfailed in
              let since : (account (history_of old ++ f.since)).failed ≢ None = λ none. before (ap (λ (h : List Entry). (account h).failed) (sym reach.is.history ∙ f.history) ∙ none) in
              rose_until (g.faults (heap_disk old) + g.stops (heap_disk old)) (g.faults (heap_disk mid) + g.stops (heap_disk mid)) (g.faults (heap_disk new) + g.stops (heap_disk new))
              (omega (arith, second.faults_kept, second.stops_kept)) (failed_caused old mid (history_of old) f.since f.causes began since)
        ]

    -- no fault of the disk was ignored before the events that end a run, if the heap has not failed in the end
    pub ends_still : (r : Result (Unit {0}) AllocError) (rose : Type 0) → EndsCore r rose → failed_at new ≡ None → CountsStay g (heap_disk old) (heap_disk mid)
    ends_still r rose ended unfailed =
        let none : (account ended.core.history).failed ≡ None = sym ended.reached.1.memory.failure ∙ unfailed in
        let before : (account reach.core.history).failed ≡ None = ⊎_elim (λ (is : (account reach.core.history).failed ≡ None). is)
        (λ (failed : (account reach.core.history).failed ≢ None).
        let here : IsRun reach.core [] ended.core = subst (λ (l : List Event). IsRun reach.core l ended.core) (ended.none failed) ended.reached.0 in
        absurd (failed (ap (λ (x : Core). (account x.history).failed) (sym here) ∙ none)))
        (is_none (account reach.core.history).failed) in
        let uncut = unfailed_uncut (history_of old) f.since (ap (λ (h : List Entry). (account h).failed) (sym f.history ∙ reach.is.history) ∙ before) in
        let same = f.still uncut.1 in
        record { faults = same.0; stops = same.1 }

  -- On a modelled one.
  module _ (tells : IsTrue g.tells) (s : Super) (is : IsHeap s c old) where
    abbrev pub reach_on : ReachesOn s c f.since old mid
    reach_on = f.holds tells s c is running.reached

    run_on : IsRun c sent_by reach_on.core
    run_on = heap_run g c reach_on.core (heap_disk old) (heap_disk mid) sent_by reach_on.steps

    pub reached_on : IsReached reach_on.core
    reached_on = run_reached c reach_on.core sent_by running.reached f.sessions run_on

    abbrev pub EndsHeap : Result (Unit {0}) AllocError → Type 0 → Type 0
    EndsHeap r rose = EndsBy reach_on.core r rose (λ made core. AreSteps (HeapStep g) reach_on.core (heap_disk mid) made core (heap_disk new) × IsHeap s core new)

    module _ (r : Result (Unit {0}) AllocError) (rose : Type 0) (ended : EndsHeap r rose) where
      run_end : IsRun reach_on.core ended.made ended.core
      run_end = heap_run g reach_on.core ended.core (heap_disk mid) (heap_disk new) ended.made ended.reached.0

      pub reached_last : IsReached ended.core
      reached_last = run_reached reach_on.core ended.core ended.made reached_on (ending_front reach_on.core ended.made ended.unmade ended.parts) run_end

      pub heap_together : (tries : ℕ) (lines : List Line) → c.history ≡ [] → (end : Result (Unit {0}) AllocError) → IsWorked tries lines (length (history_of old)) (history_of mid) end
          → (result : Status) (told : Bool) (before after : List ℕ) → GoesOn end r ended.made ended.core result told before after → StepsTogether tries lines s c old new result told before after
      heap_together tries lines fresh end worked result told before after goes =
          let own : IsWorked tries lines (length c.history) reach_on.core.history end =
          subst (λ (h : List Entry). IsWorked tries lines (length h) reach_on.core.history end) is.core.history (subst (λ (h : List Entry). IsWorked tries lines (length (history_of old)) h end) reach_on.is.core.history worked) in
          steps_together tries lines s c running fresh old mid new sent_by reach_on.core f.sessions reach_on.steps run_on end own r rose ended run_end result told before after goes
