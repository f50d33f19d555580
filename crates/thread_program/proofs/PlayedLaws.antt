-- What a run of workers promises on a modelled disk.
use Rattle.std.proofs.Common.{◌≡◌, inl, ⊎_elim, ℕ, ◌+◌, ◌≤◌, List, length, Bool, None, refl, sym, ap, ◌∙◌, subst, arith}
use Rattle.std.specs.Prelude.{IsTrue}
use Rattle.counts.specs.Count.{counted}
use Rattle.disk_model.specs.declared.disk.Disk.{Ghosts}
use Rattle.disk_model.specs.Disk.{Only}
use Rattle.disk_model.specs.Moments.{LeavesOnly}
use Rattle.disk_model.proofs.MomentLaws.{begins}
use Rattle.gate_slot.proofs.PassingLaws.{counted-add}
use Rattle.graph_model.specs.declared.event.Event.{Event}
use Rattle.graph_model.specs.History.{account, sealed}
use Rattle.image_plan.specs.declared.superblock.Super.{Super}
use Rattle.heap_core.specs.declared.heap.Heap.{Heap}
use Rattle.heap_core.specs.Refinement.{SameBehind}
use Rattle.heap_core.proofs.StepsLaws.{heap_leaves}
use Rattle.heap_model.specs.Core.{Core, commits_on_disk}
use Rattle.heap_model.specs.CoreCrash.{IsCommitPrefix}
use Rattle.heap_model.specs.CoreRuns.{total_calls}
use Rattle.page_redo.specs.Origin.{commits_in}
use Rattle.core_laws.specs.Ended.{IsUnfailed}
use Rattle.core_laws.specs.Valid.{IsReached}
use Rattle.core_laws.proofs.Run.Calls.{unfailed_events}
use Rattle.core_laws.proofs.Run.Events.{run_reached}
use Rattle.core_laws.proofs.Run.Replies.{replies_law}
use Rattle.core_laws.proofs.Step.Sound.{reached_agrees}
use Rattle.script_text.specs.declared.line.Line.{Line}
use Rattle.heap_program.specs.declared.status.Status.{Status}
use Rattle.heap_program.specs.declared.status.Status.TheVariants as status
use Rattle.heap_program.specs.Causes.{CountsStay, DiskRose, Unharmed}
use Rattle.heap_program.specs.Headline.{lasting, KeepsThroughout}
use Rattle.heap_program.specs.Play.{IsRunning}
use Rattle.heap_program.proofs.Behind.{HasImages, played_behind}
use Rattle.heap_program.proofs.Causes.{disk_rose_since}
use Rattle.heap_program.proofs.PlayFuse.{own_steps}
use Rattle.thread_program.specs.Together.{events_asked, RunsByWorkers, StepsTogether, IsPlayedTogether}
use Rattle.thread_program.proofs.ChainLaws.{Whole, Short, ChainEnds, chain_ends, heap_run, steps_kept, steps_none}

-- What was opened on the disk, up to the first event.
pub record OpenedOn {D : Type 0} (g : Ghosts D) (at_opening : ℕ) (c : Core) (start opened : D) : Type 0 where
  pub has : HasImages g
  pub opening : LeavesOnly g.moment g.left_since start opened (IsCommitPrefix c)
  pub behind : LeavesOnly g.moment g.left_since start opened (SameBehind c (g.bytes start))
  pub here : (image : List ℕ) → g.may_leave opened image → IsCommitPrefix c image
  pub passed : g.passed opened ≡ counted at_opening (g.passed start)
  pub restarts : g.restarts opened ≡ g.restarts start
  pub faults : g.faults start ≤ g.faults opened
  pub stops : g.stops start ≤ g.stops opened
  pub counts : CountsStay g start opened

module _ {D : Type 0} {g : Ghosts D} (tells : IsTrue g.tells) (s : Super) (c : Core) (running : IsRunning c) (at_opening : ℕ) (start : D) (old new : Heap D g) (opened : OpenedOn g at_opening c start old.disk)
    (tries : ℕ) (lines : List Line) (result : Status) (told : Bool) (before after : List ℕ) (made_by : StepsTogether tries lines s c old new result told before after) where
  abbrev runs : RunsByWorkers tries lines c result told before after
  runs = made_by.runs

  abbrev made : List Event
  made = runs.made

  abbrev core : Core
  core = runs.core

  reached : IsReached core
  reached = run_reached c core made running.reached runs.sessions (heap_run g c core old.disk new.disk made made_by.steps)

  ends : ChainEnds g c made core old.disk new.disk
  ends = chain_ends g c core old.disk new.disk made running.reached running.unfailed runs.sessions made_by.steps

  -- all that is acknowledged or forced is sealed
  least : lasting core ≤ length (sealed core.history)
  least =
      let agrees = reached_agrees core reached in
      let on_disk : commits_on_disk core ≡ agrees.disk.state.commits = ap commits_in agrees.disk.told.reached in
      omega (arith, agrees.disk.acknowledged_last, agrees.disk.sealed_first, agrees.disk.told.count, on_disk)

  kept : (image : List ℕ) → g.may_leave new.disk image → IsCommitPrefix core image
  kept = heap_leaves s core new made_by.heap reached

  unsynced : (account core.history).failed ≡ None → Only (g.bytes new.disk) (g.may_leave new.disk)
  unsynced unfailed = (made_by.heap.disk.unfailed unfailed).only

  abbrev keeps : KeepsThroughout g None at_opening c made core start new.disk
  keeps = record {
    opened = old.disk;
    opening = opened.opening;
    here = opened.here;
    passed = λ u some. opened.passed;
    few = omega (arith, opened.passed);
    restarts = opened.restarts;
    still = λ some. opened.counts;
    stopped = new.disk;
    steps = own_steps g start tells c core old.disk new.disk made made_by.steps;
    rest = begins g.moment g.left_since new.disk (IsCommitPrefix core) (λ image since. kept image (opened.has.now new.disk image since));
    kept = kept;
    outside = played_behind g opened.has (g.bytes start) None start c core start old.disk new.disk made opened.behind (own_steps g start tells c core old.disk new.disk made made_by.steps);
  }

  harmed : Unharmed g start new.disk → DiskRose (g.faults old.disk) (g.stops old.disk) (g.faults new.disk) (g.stops new.disk) → ⊥
  harmed u up =
      let more = steps_kept g c core old.disk new.disk made made_by.steps in
      u (disk_rose_since _ _ _ _ _ _ opened.faults opened.stops more.0 more.1 up)

  sum : (calls : ℕ) → counted calls (g.passed old.disk) ≡ counted (at_opening + calls) (g.passed start)
  sum calls = ap (counted calls) opened.passed ∙ counted-add calls at_opening (g.passed start)

  unfailed_done : result ≡ status.Done → IsUnfailed core
  unfailed_done is = subst IsUnfailed (sym (runs.together.done is).2) (unfailed_events c made running.reached running.unfailed runs.sessions)

  pub played_together : (final : D) → final ≡ new.disk → IsPlayedTogether g tries lines at_opening c start final result told before after
  played_together final same =
      subst (λ x. IsPlayedTogether g tries lines at_opening c start x result told before after) (sym same) (record {
        runs = runs;
        disk = keeps;
        still = refl;
        steps = made_by.steps;
        no_first_stop = λ empty stops. inl (ap g.stops (steps_none g c core old.disk new.disk made empty made_by.steps) ∙ opened.counts.stops ∙ stops);
        exact = λ u. ⊎_elim (λ (all : Whole g c made core old.disk new.disk). all.0) (λ (cut : Short g c made core old.disk new.disk). absurd (harmed u cut.2)) ends;
        counts = at_opening;
        opens = inl refl;
        calls = λ u. ⊎_elim (λ (all : Whole g c made core old.disk new.disk). all.2 ∙ sum (total_calls c made)) (λ (cut : Short g c made core old.disk new.disk). absurd (harmed u cut.2)) ends;
        most = omega (arith, made_by.most, sum (total_calls c (events_asked runs.together.outcome)));
        replies = replies_law core reached;
        least = least;
        durable = λ is. unsynced (unfailed_done is);
        settled = λ other good. unsynced good;
      })
