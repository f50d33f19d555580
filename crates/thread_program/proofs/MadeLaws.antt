-- What workers make, and the events that end a run after them.
use Rattle.std.proofs.Common.{◌≡◌, ◌≢◌, ◌⊎◌, inl, inr, ⊎_elim, ℕ, List, [], ◌++◌, length, None, Result, Ok, Err, refl, sym, ap, ◌∙◌, subst, append-nil}
use Rattle.std.specs.Prelude.{IsOk, IsErr}
use Rattle.std.specs.List.{AllByRecursion}
use Rattle.std.specs.declared.alloc.AllocError.{AllocError}
use Rattle.graph_model.specs.declared.event.Event.{Event}
use Rattle.graph_model.specs.History.{account, IsOfSession}
use Rattle.heap_model.specs.Core.{Core, IsRun}
use Rattle.heap_model.specs.CoreRuns.{after_events}
use Rattle.heap_model.specs.Ending.{ending, all_events}
use Rattle.log_machine.proofs.ListLaws.{AllByRecursion-append}
use Rattle.heap_model.proofs.Step.Calls.{run_append}
use Rattle.core_laws.specs.Ended.{IsUnfailed}
use Rattle.core_laws.specs.Valid.{HasFailed, IsReached}
use Rattle.core_laws.proofs.Run.Calls.{of_session_front, unfailed_events}
use Rattle.core_laws.proofs.Run.Ending.{ending_of_session}
use Rattle.script_text.specs.declared.line.Line.{Line}
use Rattle.thread_play.specs.Worked.{IsWorked}
use Rattle.heap_program.specs.declared.status.Status.{Status}
use Rattle.heap_program.specs.declared.status.Status.TheVariants as status
use Rattle.heap_program.specs.Play.{MadeAll}
use Rattle.thread_program.specs.Together.{IsCutAmong, AreLast, MakesTogether}
use Rattle.thread_program.proofs.TogetherLaws.{failed_run, run_cut, failed_some, all_again}

-- a status is one
pub done_known : (result : Status) → result ≡ status.Done → result ≢ status.NoMemory
done_known result is memory = let same = sym is ∙ memory in cc

pub refused_known : (result : Status) → result ≡ status.WriteFault → result ≢ status.NoMemory
refused_known result is memory = let same = sym is ∙ memory in cc

-- Events were sent from a core on that runs, and then these of the ones that end a run.
module _ (c : Core) (reached : IsReached c) (unfailed : IsUnfailed c) (sent : List Event) (between : Core) (run : IsRun c sent between) (of : AllByRecursion IsOfSession sent)
    (last unmade : List Event) (d : Core) (rest : IsRun between last d) (parts : ending between ≡ last ++ unmade) (none : (account between.history).failed ≢ None → last ≡ [])
    (end : Result (Unit {0}) AllocError) (end_all : IsErr end → last ≡ []) where
  of_last : AllByRecursion IsOfSession last
  of_last = of_session_front last unmade (subst (AllByRecursion IsOfSession) parts (ending_of_session between))

  -- all events are of sessions
  pub of_all : AllByRecursion IsOfSession (sent ++ last)
  of_all = AllByRecursion-append IsOfSession sent last of of_last

  -- they are one run
  pub run_all : IsRun c (sent ++ last) d
  run_all = run_append c between d sent last run rest

  abbrev cut_sent : (MadeAll c sent between × IsUnfailed between) ⊎ (IsCutAmong c sent between × HasFailed (account between.history) between)
  cut_sent = run_cut c between sent reached unfailed of run

  pub are_last : AreLast c sent between last end
  are_last = either end end_all
    where
      either : (end : Result (Unit {0}) AllocError) → (IsErr end → last ≡ []) → AreLast c sent between last end
      either (Ok done) so = ⊎_elim
          (λ (all : MadeAll c sent between × IsUnfailed between). inr (refl, all.0, (unmade, parts)))
          (λ (cut : IsCutAmong c sent between × HasFailed (account between.history) between). inl (none (failed_some between cut.1)))
          cut_sent
      either (Err e) so = inl (so refl)

  abbrev cut_all : (MadeAll c (sent ++ last) d × IsUnfailed d) ⊎ (IsCutAmong c (sent ++ last) d × HasFailed (account d.history) d)
  cut_all = run_cut c d (sent ++ last) reached unfailed of_all run_all

  -- the disk did all that it was asked where it has not failed in the end
  pub whole_all : (account d.history).failed ≡ None → MadeAll c (sent ++ last) d
  whole_all good = ⊎_elim
      (λ (all : MadeAll c (sent ++ last) d × IsUnfailed d). all.0)
      (λ (cut : IsCutAmong c (sent ++ last) d × HasFailed (account d.history) d). absurd (failed_some d cut.1 good))
      cut_all

  -- it failed in one event, or in none
  pub cut_run : MadeAll c (sent ++ last) d ⊎ IsCutAmong c (sent ++ last) d
  cut_run = ⊎_elim
      (λ (all : MadeAll c (sent ++ last) d × IsUnfailed d). inl all.0)
      (λ (cut : IsCutAmong c (sent ++ last) d × HasFailed (account d.history) d). inr cut.0)
      cut_all

  pub whole_unfailed : MadeAll c (sent ++ last) d → IsUnfailed d
  whole_unfailed whole = subst IsUnfailed (sym whole) (unfailed_events c (sent ++ last) reached unfailed of_all)

  pub last_all : (unmade ≡ []) ⊎ ((account d.history).failed ≢ None) → (account d.history).failed ≡ None → last ≡ ending between
  last_all (inl none) good = sym (append-nil last) ∙ ap (λ (l : List Event). last ++ l) (sym none) ∙ sym parts
  last_all (inr failed) good = absurd (failed good)

  abbrev pub made_together : (tries : ℕ) (lines : List Line) (result : Status) → IsWorked tries lines (length c.history) between.history end → (IsErr end → result ≡ status.NoMemory)
      → (result ≢ status.NoMemory → (unmade ≡ []) ⊎ ((account d.history).failed ≢ None)) → (result ≡ status.Done → IsOk end × ((account d.history).failed ≡ None))
      → MadeAll c (sent ++ last) d ⊎ IsCutAmong c (sent ++ last) d → MakesTogether tries lines c (sent ++ last) d result
  made_together tries lines result worked refused all done cut = record {
    sent = sent;
    last = last;
    parts = refl;
    between = between;
    run = run;
    rest = rest;
    workers_end = end;
    worked = worked;
    refused = λ is. inl (refused is);
    last_are = are_last;
    done = λ is. let good = done is in (good.0, last_all (all (done_known result is)) good.1, whole_all good.1);
    behind = λ is whole. last_all (all (refused_known result is)) (whole_unfailed whole);
    outcome = cut;
  }

module _ (tries : ℕ) (lines : List Line) (c : Core) (made : List Event) (d : Core) (result : Status) (reached : IsReached c) (unfailed : IsUnfailed c) (of : AllByRecursion IsOfSession made)
    (together : MakesTogether tries lines c made d result) where
  abbrev sent : List Event
  sent = together.sent

  pub of_sent : AllByRecursion IsOfSession sent
  of_sent = of_session_front sent together.last (subst (AllByRecursion IsOfSession) together.parts of)

  -- Where the disk did all that it was asked, it did what the workers asked.
  sent_all : MadeAll c made d → MadeAll c sent together.between
  sent_all whole = ⊎_elim
      (λ (all : MadeAll c sent together.between × IsUnfailed together.between). all.0)
      (λ (cut : IsCutAmong c sent together.between × HasFailed (account together.between.history) together.between).
      let failed = failed_run together.between d together.last cut.1 together.rest in
      absurd (failed_some d failed.1 (subst IsUnfailed (sym whole) (unfailed_events c made reached unfailed of))))
      (run_cut c together.between sent reached unfailed of_sent together.run)

  module _ (is : result ≡ status.Done) where
    -- A run that is done has made what a play makes that is asked what the workers sent.
    pub done_made : made ≡ sent ++ ending (after_events c sent)
    done_made =
        let done = together.done is in
        together.parts ∙ ap (λ (l : List Event). sent ++ l) done.1 ∙ ap (λ (x : Core). sent ++ ending x) (sent_all done.2)

    -- A play of all that it has made makes just that.
    pub made_again : all_events None c made ≡ made
    made_again = subst (λ (l : List Event). all_events None c l ≡ l) (sym done_made) (all_again c sent reached unfailed of_sent)
