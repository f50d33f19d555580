-- How a play gives what a run promises.
use Rattle.std.proofs.Common.{◌≡◌, ◌≢◌, ◌⊎◌, inl, inr, ⊎_elim, ℕ, ◌+◌, ◌-◌, ◌≤◌, min, Bool, List, [], ◌++◌, ◌∷◌, length, take, Option, Some, None, Result, Ok, Err, refl, sym, ap, ◌∙◌, subst, arith, length-append}
use Rattle.std.specs.Prelude.{IsTrue}
use Rattle.std.proofs.lemmas.List.{append-nil, take_all}
use Rattle.counts.specs.Count.{Rose, counted}
use Rattle.disk_model.specs.declared.disk.Disk.{Ghosts}
use Rattle.disk_model.specs.declared.disk.DiskError.TheVariants as device
use Rattle.disk_model.specs.Disk.{Only}
use Rattle.disk_model.specs.Moments.{LeavesOnly}
use Rattle.disk_model.proofs.MomentLaws.{begins}
use Rattle.graph_model.specs.declared.event.Event.{Event}
use Rattle.graph_model.specs.declared.reply.Refusal.TheVariants.{DiskFault, Stopped}
use Rattle.graph_model.specs.declared.reply.Reply.{Reply}
use Rattle.graph_model.specs.declared.reply.Reply.TheVariants.{Refused}
use Rattle.graph_model.specs.Transaction.{Transaction, serial, serial_replies}
use Rattle.graph_model.specs.History.{account, sealed, commits}
use Rattle.image_plan.specs.declared.superblock.Super.{Super}
use Rattle.heap_core.specs.declared.heap.Heap.{Heap}
use Rattle.heap_program.specs.declared.output.WriteError.{WriteError}
use Rattle.heap_program.specs.declared.play.Halt.{Halt}
use Rattle.heap_program.specs.declared.play.Halt.TheVariants as halt
use Rattle.heap_program.specs.declared.status.Status.{Status}
use Rattle.heap_program.specs.declared.status.Status.TheVariants as status
use Rattle.heap_program.specs.Causes.{DiskRose, CountsStay, Unharmed}
use Rattle.heap_core.specs.Causes.{reply_device}
use Rattle.heap_core.specs.Refinement.{SameBehind}
use Rattle.heap_model.specs.Core.{Core, commits_on_disk, with_entry, IsRun}
use Rattle.heap_model.specs.CoreCrash.{IsCommitPrefix}
use Rattle.heap_model.proofs.Step.Calls.{total_calls-append}
use Rattle.core_laws.proofs.Crash.Image.{sealed-few, sealed-first}
use Rattle.heap_model.proofs.Run.Ending.{total_few}
use Rattle.heap_program.proofs.CoreSteps.{makes_run, ready_front, running_after}
use Rattle.core_laws.proofs.Run.Replies.{replies_law}
use Rattle.core_laws.proofs.Step.Sound.{reached_agrees}
use Rattle.commit_order.specs.Heard.{replies_of_commits}
use Rattle.heap_model.specs.CoreRuns.{after_events, total_calls}
use Rattle.core_laws.specs.Valid.{IsReached}
use Rattle.page_redo.specs.Origin.{commits_in}
use Rattle.command_words.specs.declared.commands.Stop.{Stop}
use Rattle.heap_program.specs.Headline.{lasting, graph_text, end_text, stop_after, let_through, HasMade, StopsLast, IsExact, StopsInPlace, IsEndOfPlay, IsOfDisk, MakesEvents, KeepsThroughout, IsFollowed, Reopens, StartsAgain, EndsUnopened, Prints, IsPlayed}
use Rattle.heap_program.proofs.Playable.{IsPlayable}
use Rattle.heap_program.specs.Output.{WroteText, Recovers, WroteRecovered, WroteNothing, status_after}
use Rattle.heap_program.specs.Play.{IsRunning, MadeAll, IsCutBy, MakesAll, MakesShort, Makes, Ends, Plays, Wrote, lines_text, WroteFront, WroteLines}
use Rattle.heap_program.proofs.Ready.{AreReady}
use Rattle.heap_program.specs.StatusOf.{halt_status}
use Rattle.heap_program.proofs.Causes.{disk_rose}
use Rattle.heap_program.proofs.Counts.{counted-sum, counted_mono}
use Rattle.heap_program.proofs.Limits.{limits_law}
use Rattle.heap_program.specs.Limits.{KeepsLimits}
use Rattle.heap_core.specs.Steps.{AreSteps}
use Rattle.heap_program.specs.Steps.{Step}
use Rattle.heap_core.proofs.StepsLaws.{heap_leaves}
use Rattle.heap_program.proofs.Behind.{HasImages, played_behind}
use Rattle.heap_program.proofs.Lines as lines
use Rattle.heap_program.proofs.PlayFaults.{cut_reply, fault_not_whole, stop_not_whole, fault_not_stopped}
use Rattle.heap_program.proofs.PlayFuse.{rose_some, own_steps}
use Rattle.heap_program.proofs.PlayLaws.{ends_makes}
use Rattle.heap_program.proofs.Reopened.{recovered_only}
use Rattle.heap_program.proofs.Statuses.{written_end, written_sound, wrote_all}
use Rattle.heap_program.proofs.Written.{whole_front, wrote_some}

-- no step leaves the disk as it was
steps_none : {D : Type 0} (step : Core → D → Event → Core → D → Type 0) (c d : Core) (old new : D) (made : List Event) → made ≡ [] → AreSteps step c old made d new → new ≡ old
steps_none step c d old new [] empty steps = steps.1
steps_none step c d old new (event ∷ events) empty steps = cc

module _ {D : Type 0} {g : Ghosts D} (s : Super) (c : Core) (running : IsRunning c) (new_history : c.history ≡ []) (events : List Event) (playable : IsPlayable events)
    (old new : Heap D g) (told : Bool) (before after : List ℕ) (result : Result (Unit {0}) Halt) (plays : Plays s c events old new told before after result) where
  abbrev core : Core
  core = plays.core

  abbrev made : List Event
  made = plays.made

  ready : AreReady c (made ++ plays.behind)
  ready = subst (AreReady c) plays.parts (record { running = running; sessions = playable.sessions })

  makes : Makes c made core old new
  makes = ends_makes c made plays.behind core old new result plays.ends

  -- the events that were made are a run, which reached this core
  pub run_reached : IsRun c made core × IsReached core
  run_reached = makes_run c made plays.behind core old new ready makes

  replies : replies_of_commits core.history ≡ serial_replies core.g0 (commits core.history)
  replies = replies_law core run_reached.1

  pub limits : KeepsLimits c made core
  limits = limits_law c running.reached new_history made (ready_front c made plays.behind ready).sessions core

  -- what a crash leaves now
  pub kept : (image : List ℕ) → g.may_leave new.disk image → IsCommitPrefix core image
  kept = heap_leaves s core new plays.heap run_reached.1

  -- nothing is unsynced where the disk has not failed
  pub unfailed_only : (account core.history).failed ≡ None → Only (g.bytes new.disk) (g.may_leave new.disk)
  unfailed_only unfailed = (plays.heap.disk.unfailed unfailed).only

  -- it has not failed where all events were made
  made_unfailed : MadeAll c made core → (account core.history).failed ≡ None
  made_unfailed whole = ap (λ (x : Core). (account x.history).failed) whole ∙ (running_after c made (ready_front c made plays.behind ready)).unfailed

  abbrev all : ℕ
  all = length (sealed core.history)

  least : lasting core ≤ all
  least =
      let agrees = reached_agrees core run_reached.1 in
      let commits : commits_on_disk core ≡ agrees.disk.state.commits = ap commits_in agrees.disk.told.reached in
      omega (arith, agrees.disk.acknowledged_last, agrees.disk.sealed_first, agrees.disk.told.count, commits)

  most : all ≤ length (commits core.history)
  most = sealed-few core.history

  -- the graph of all commits
  all_graph : graph_text (serial core.g0 (sealed core.history)) ≡ graph_text (serial core.g0 (take all (commits core.history)))
  all_graph =
      let first : take all (commits core.history) ≡ sealed core.history = sealed-first all core.history (omega arith) ∙ take_all all (sealed core.history) (omega arith) in
      ap (λ (ts : List Transaction). graph_text (serial core.g0 ts)) (sym first)

  -- what was written of the lines, by how the play ended
  pub lines_wrote : (r : Result (Unit {0}) Halt) → result ≡ r → IsTrue told → Wrote r before core.history after
  lines_wrote r is t =
      let P : Result (Unit {0}) Halt → Type 0 = λ x. Wrote x before core.history after in
      subst P is (lines.all_since result c.history core.history before after new_history (plays.written t))

  -- what was written of the lines by a play that halted
  pub halt_part : (h : Halt) → result ≡ Err h → IsTrue told → WroteFront before (lines_text core.history) after × WroteLines before core.history after
  halt_part h is t = lines.halt_part core.history before after h (lines_wrote (Err h) is t)

  -- all of them, if it was the disk
  pub halt_lines : (h : Halt) → result ≡ Err h → IsTrue told → IsOfDisk (halt_status h) → after ≡ before ++ lines_text core.history
  halt_lines h is t fault = lines.halt_lines core.history before after h (lines_wrote (Err h) is t) fault

  -- or if it continued
  pub stopped_lines : (result ≡ Ok tt) ⊎ (result ≡ Err halt.Stopped) → IsTrue told → after ≡ before ++ lines_text core.history
  stopped_lines ended t = lines.stopped_lines core.history before after result ended (lines_wrote result refl t)

  pub last_made : MadeAll c made core ⊎ ((reply : Reply) × IsCutBy reply c made core)
  last_made = ⊎_elim
      (λ (all : MakesAll c made core old new). inl all.reached)
      (λ (some : (reply : Reply) × MakesShort c made core old new reply).
      let short = some.1 in
      inr (some.0, record { before = short.before; event = short.event; parts = short.parts; cut = short.cut; reached = short.reached }))
      makes

  -- What a crash leaves of the heap's own disk since it was opened.
  abbrev pub keeps_own : IsTrue g.tells → (at_opening : ℕ) (start : D) → HasImages g → LeavesOnly g.moment g.left_since start old.disk (IsCommitPrefix c) → LeavesOnly g.moment g.left_since start old.disk (SameBehind c (g.bytes start))
      → ((image : List ℕ) → g.may_leave old.disk image → IsCommitPrefix c image) → g.passed old.disk ≡ counted at_opening (g.passed start) → g.restarts old.disk ≡ g.restarts start → CountsStay g start old.disk → KeepsThroughout g None at_opening c made core start new.disk
  keeps_own tells at_opening start has opening behind here passed restarts counts = record {
    opened = old.disk;
    opening = opening;
    here = here;
    passed = λ u some. passed;
    few = omega (arith, passed);
    restarts = restarts;
    still = λ some. counts;
    stopped = new.disk;
    steps = own_steps g start tells c core old.disk new.disk made plays.steps;
    rest = begins g.moment g.left_since new.disk (IsCommitPrefix core) (λ image since. kept image (has.now new.disk image since));
    kept = kept;
    outside = played_behind g has (g.bytes start) None start c core start old.disk new.disk made behind (own_steps g start tells c core old.disk new.disk made plays.steps);
  }

  -- the events that were made, as a run states them
  abbrev pub events_made : (stop : Option ℕ) (at_opening : ℕ) (by : Status) → (by ≡ status.Done → HasMade stop c made plays.behind core) → StopsInPlace stop at_opening c made core → MakesEvents stop at_opening c events by
  events_made stop at_opening by done stops = record { made = made; behind = plays.behind; parts = plays.parts; core = core; last = last_made; limits = limits; done = λ is. inl (done is); in_place = stops }

  -- The disk that was handed in, at the start and at the end, what a crash left of it, and how many calls it has let through.
  module _ {B : Type 0} (h : Ghosts B) (start final : B) (stop : Option Stop) (at_opening : ℕ) (keeps : KeepsThroughout h (stop_after stop) at_opening c made core start final)
      (calls : Unharmed h start keeps.stopped → h.passed keeps.stopped ≡ counted (let_through (stop_after stop) (at_opening + total_calls c made)) (h.passed start)) (few_calls : h.passed keeps.stopped ≤ counted (let_through (stop_after stop) (at_opening + total_calls c made)) (h.passed start)) where
    -- The play ended before more than lines were to be written.
    pub ends_early : (by : Status) → final ≡ keeps.stopped → IsEndOfPlay by → (by ≡ status.Done → ⊥) → (IsTrue told → WroteFront before (lines_text core.history) after × WroteLines before core.history after)
        → (IsTrue told → IsOfDisk by → after ≡ before ++ lines_text core.history)
        → (Unharmed h start keeps.stopped → IsExact (stop_after stop) at_opening c made core) → StopsInPlace (stop_after stop) at_opening c made core
        → ((account core.history).failed ≡ None → Only (h.bytes keeps.stopped) (h.may_leave keeps.stopped)) → IsFollowed h stop core all keeps.stopped final by (IsTrue told → WroteFront before (lines_text core.history) after)
        → (stop ≡ None → CountsStay h start keeps.opened) → IsPlayed h stop at_opening c events start final by told before after
    ends_early by same is_end not_done part whole place stops unsynced follows opening = record {
      run = events_made (stop_after stop) at_opening by (λ is. absurd (not_done is)) stops;
      disk = keeps;
      exact = place;
      counts = at_opening;
      opens = inl refl;
      calls = calls;
      most = few_calls;
      replies = replies;
      prints = record {
        count = all;
        least = least;
        most = most;
        all = λ none. refl;
        behind = follows;
        written = λ t. lines.some_writes core.history before after by (end_text (stop_after stop) all (serial core.g0 (take all (commits core.history)))) after not_done (part t).0 (part t).1 (whole t);
      };
      no_first_stop = λ none empty stops. inl (ap h.stops (same ∙ steps_none (Step h (stop_after stop) start) c core keeps.opened keeps.stopped made empty keeps.steps) ∙ (opening none).stops ∙ stops);
      faulted = λ cut. record { same = same; lines = λ t. (part t).0; early = λ is. not_done is };
      durable = λ is. absurd (not_done is);
      settled = λ other free.
          let here : Only (h.bytes keeps.stopped) (h.may_leave keeps.stopped) = unsynced (⊎_elim
          (λ (whole : MadeAll c made core). made_unfailed whole)
          (λ (some : (reply : Reply) × IsCutBy reply c made core). absurd (free same some.0 some.1))
          last_made) in
          subst (λ x. Only (h.bytes x) (h.may_leave x)) (sym same) here;
      end = is_end;
    }

  -- The graph of all commits was to be written.
  pub ends_whole : {B : Type 0} (h : Ghosts B) (start final : B) (at_opening : ℕ) (keeps : KeepsThroughout h None at_opening c made core start final) (output : Result (Unit {0}) WriteError) (after' : List ℕ) → plays.behind ≡ [] → MadeAll c made core
      → (IsTrue told → after ≡ before ++ lines_text core.history) → (IsTrue told → WroteText output after (graph_text (serial core.g0 (sealed core.history))) after') → final ≡ keeps.stopped
      → h.passed keeps.stopped ≡ counted (at_opening + total_calls c made) (h.passed start) → Only (h.bytes final) (h.may_leave final) → CountsStay h start keeps.opened → IsPlayed h None at_opening c events start final (status_after output) told before after'
  ends_whole h start final at_opening keeps output after' nothing reached out wrote same calls last opening =
      let P : List ℕ → Type 0 = λ text. WroteText output after text after' in
      let full = λ (t : IsTrue told). subst P all_graph (wrote t) in
      let text = graph_text (serial core.g0 (take all (commits core.history))) in
      record {
        run = events_made None at_opening (status_after output) (λ is. (nothing, reached)) tt;
        disk = keeps;
        exact = λ u. reached;
        counts = at_opening;
        opens = inl refl;
        calls = λ u. calls;
        most = omega (arith, calls);
        replies = replies;
        prints = record {
          count = all;
          least = least;
          most = most;
          all = λ none. refl;
          behind = same;
          written = λ t. lines.all_writes core.history before after (status_after output) text after' (written_sound output) (out t) (wrote_some output after text after' (full t)) (λ is. wrote_all output after text after' is (full t));
        };
        no_first_stop = λ none empty stops. inl (ap h.stops (same ∙ steps_none (Step h None start) c core keeps.opened keeps.stopped made empty keeps.steps) ∙ opening.stops ∙ stops);
        faulted = λ cut. absurd (fault_not_whole c core made cut reached);
        durable = λ is. last;
        settled = λ other free. last;
        end = written_end output;
      }

  -- it is about the core that was reached, by all events
  pub ends_whole_at : {B : Type 0} (h : Ghosts B) (start final : B) (at_opening : ℕ) (keeps : KeepsThroughout h None at_opening c made core start final) (output : Result (Unit {0}) WriteError) (after' : List ℕ) → plays.behind ≡ [] → MadeAll c made core
      → (IsTrue told → after ≡ before ++ lines_text core.history) → (IsTrue told → WroteText output after (graph_text (serial core.g0 (sealed core.history))) after') → final ≡ keeps.stopped
      → h.passed keeps.stopped ≡ counted (at_opening + total_calls c made) (h.passed start) → Only (h.bytes final) (h.may_leave final) → CountsStay h start keeps.opened
      → (played : IsPlayed h None at_opening c events start final (status_after output) told before after') × (played.run.core ≡ core) × HasMade None c played.run.made played.run.behind played.run.core
  unfolding ends_whole
  ends_whole_at h start final at_opening keeps output after' nothing reached out wrote same calls last opening =
      (ends_whole h start final at_opening keeps output after' nothing reached out wrote same calls last opening, refl, (nothing, reached))

  -- The heap was to be opened again, and what came back to be written.
  module _ {B : Type 0} (h : Ghosts B) (start final : B) (stop : Stop) (at_opening : ℕ) (keeps : KeepsThroughout h (Some stop.after) at_opening c made core start final)
      (calls : Unharmed h start keeps.stopped → h.passed keeps.stopped ≡ counted (min stop.after (at_opening + total_calls c made)) (h.passed start)) (few_calls : h.passed keeps.stopped ≤ counted (min stop.after (at_opening + total_calls c made)) (h.passed start)) where
    abbrev opens : ℕ → Type 0
    opens k = StartsAgain h stop.again core k (Reopens h core k) keeps.stopped final

    abbrev fails : ℕ → Status → Type 0
    fails k by = EndsUnopened h stop.again core k keeps.stopped final by

    module _ (k : ℕ) (by : Status) (after' : List ℕ) (out : IsTrue told → after ≡ before ++ lines_text core.history) (recovers : Recovers core k (opens k) (fails k by) (h.bytes final) (h.may_leave final) by told after after') where
      found_prints : WroteRecovered core k (opens k) by told after after' → Prints h (Some stop) core keeps.stopped final by told before after'
      found_prints found = record {
        count = k;
        least = recovers.least;
        most = recovers.most;
        all = λ none. cc;
        behind = inl (found.opened, found.sound);
        written = λ t. lines.all_writes core.history before after by (end_text (Some stop.after) k (serial core.g0 (take k (commits core.history)))) after' found.sound (out t) (found.written t) (found.whole t);
      }

      nothing_prints : WroteNothing (fails k by) by told after after' → Prints h (Some stop) core keeps.stopped final by told before after'
      nothing_prints nothing =
          let out_after = λ (t : IsTrue told). nothing.nothing t ∙ out t in
          record {
            count = k;
            least = recovers.least;
            most = recovers.most;
            all = λ none. cc;
            behind = inr (nothing.failed, nothing.early, λ t. whole_front before (lines_text core.history) after' (out_after t));
            written = λ t. lines.some_writes core.history before after by (end_text (Some stop.after) k (serial core.g0 (take k (commits core.history)))) after' nothing.early (whole_front before (lines_text core.history) after' (out_after t))
                (lines.lines_more core.history before after after' [] (out t) (nothing.nothing t ∙ sym (append-nil after))) (λ is. out_after t);
          }

      -- it continued, so the disk had not failed
      went_on : HasMade (Some stop.after) c made plays.behind core → IsCutBy (Refused DiskFault) c made core → ⊥
      went_on has cut = ⊎_elim
          (λ (whole : (plays.behind ≡ []) × MadeAll c made core). fault_not_whole c core made cut whole.1)
          (λ (stopped : IsCutBy (Refused Stopped) c made core). fault_not_stopped c core made cut stopped)
          has

      pub ends_recovered : HasMade (Some stop.after) c made plays.behind core → (Unharmed h start keeps.stopped → IsExact (Some stop.after) at_opening c made core) → StopsInPlace (Some stop.after) at_opening c made core → IsPlayed h (Some stop) at_opening c events start final by told before after'
      ends_recovered has place stops = record {
        run = events_made (Some stop.after) at_opening by (λ is. has) stops;
        disk = keeps;
        exact = place;
        counts = at_opening;
        opens = inl refl;
        calls = calls;
        most = few_calls;
        replies = replies;
        prints = ⊎_elim found_prints nothing_prints recovers.found;
        no_first_stop = λ none. let never : Some stop ≡ None = none in absurd (cc never);
        faulted = λ cut. absurd (went_on has cut);
        durable = λ done. recovered_only h stop.again core k keeps.stopped final by told after after' recovers.found done;
        settled = λ other free. recovers.settled other;
        end = recovers.end;
      }

  few : total_calls c made ≤ 20971850
  few =
      let all : length events ≡ length made + length plays.behind = ap (λ (l : List Event). length l) plays.parts ∙ length-append made plays.behind in
      let each = total_few c made in
      let most = playable.few in
      omega arith

  total_of : (reply : Reply) (short : MakesShort c made core old new reply) → total_calls c made ≡ total_calls c short.before + total_calls (after_events c short.before) (short.event ∷ [])
  total_of reply short = ap (total_calls c) short.parts ∙ total_calls-append c short.before (short.event ∷ [])

  -- It let through no more than the calls of all events, whether or not the disk failed.
  pub passes_most : g.passed new.disk ≤ counted (total_calls c made) (g.passed old.disk)
  passes_most = ⊎_elim
      (λ (all : MakesAll c made core old new). omega (arith, all.passes))
      (λ (some : (reply : Reply) × MakesShort c made core old new reply). short_most some.0 some.1)
      makes
    where
      short_most : (reply : Reply) → MakesShort c made core old new reply → g.passed new.disk ≤ counted (total_calls c made) (g.passed old.disk)
      short_most reply short =
          let few = short.most in
          let total = total_of reply short in
          let more = counted_mono (total_calls c short.before + few.0) (total_calls c made) (g.passed old.disk) (omega (arith, few.1, total)) in
          omega (arith, few.2, more)

  -- Where the disk does what it is asked, all events were made.
  module _ (unharmed : DiskRose (g.faults old.disk) (g.stops old.disk) (g.faults new.disk) (g.stops new.disk) → ⊥) where
    short_harm : (reply : Reply) → MakesShort c made core old new reply → DiskRose (g.faults old.disk) (g.stops old.disk) (g.faults new.disk) (g.stops new.disk)
    short_harm reply short = ⊎_elim
        (λ (is : reply ≡ Refused DiskFault). disk_rose _ _ _ _ (reply_device reply) device.Failed short.cause (ap reply_device is))
        (λ (is : reply ≡ Refused Stopped). disk_rose _ _ _ _ (reply_device reply) device.Stopped short.cause (ap reply_device is))
        short.cut.told

    pub exact_none : MadeAll c made core
    exact_none = ⊎_elim
        (λ (all : MakesAll c made core old new). all.reached)
        (λ (some : (reply : Reply) × MakesShort c made core old new reply). absurd (unharmed (short_harm some.0 some.1)))
        makes

    -- with all their calls
    pub exact_passes : g.passed new.disk ≡ counted (total_calls c made) (g.passed old.disk)
    exact_passes = ⊎_elim
        (λ (all : MakesAll c made core old new). all.passes)
        (λ (some : (reply : Reply) × MakesShort c made core old new reply). absurd (unharmed (short_harm some.0 some.1)))
        makes

  -- So it was where no more than a limit was to be let through, and some had been let through before.
  pub passes_within : (n p : ℕ) → p ≤ 4 → g.passed old.disk ≡ p → g.passed new.disk ≤ n → g.passed new.disk ≤ min n (p + total_calls c made)
  passes_within n p few_before begun within =
      let all = subst (λ (k : ℕ). g.passed new.disk ≤ counted (total_calls c made) k) begun passes_most in
      let sum = counted-sum (total_calls c made) p (omega (arith, few, few_before)) in
      omega (arith, all, sum, within)

  -- The disk stops after a limit.
  module _ (n p : ℕ) (few_before : p ≤ 4) (begun : g.passed old.disk ≡ p) (within : g.passed new.disk ≤ n) (at : g.stops new.disk ≢ 0 → g.passed new.disk ≡ n) where
    passes_all : MakesAll c made core old new → g.passed new.disk ≡ p + total_calls c made
    passes_all all =
        all.passes ∙ ap (counted (total_calls c made)) begun ∙ counted-sum (total_calls c made) p (omega (arith, few, few_before)) ∙ omega arith

    module _ (reply : Reply) (short : MakesShort c made core old new reply) (is_stopped : reply ≡ Refused Stopped) where
      has_stopped : g.stops new.disk ≢ 0
      has_stopped = rose_some (g.stops old.disk) (g.stops new.disk) short.cause.stops_kept (short.cause.stopped (ap reply_device is_stopped))

      total : total_calls c made ≡ total_calls c short.before + total_calls (after_events c short.before) (short.event ∷ [])
      total = total_of reply short

      here : n ≡ p + (total_calls c short.before + (short.passes is_stopped).0)
      here =
          let passes = short.passes is_stopped in
          sym (at has_stopped) ∙ passes.2 ∙ ap (counted (total_calls c short.before + passes.0)) begun
          ∙ counted-sum (total_calls c short.before + passes.0) p (omega (arith, few, few_before, total, passes.1)) ∙ omega arith

      stopped_last : (p ≤ n) × StopsLast (n - p) c made core
      stopped_last =
          let below = (short.passes is_stopped).1 in
          let place = here in (
            omega arith,
            record {
              at = record { before = short.before; event = short.event; behind = []; parts = short.parts; made = omega arith; short = omega arith };
              last = refl;
              reached = short.reached ∙ ap (λ (r : Reply). with_entry (after_events c short.before) short.event r) is_stopped;
            },
          )

      passes_few : g.passed new.disk ≡ min n (p + total_calls c made)
      passes_few = omega (arith, at has_stopped, here, total, (short.passes is_stopped).1)

    -- It stops in the event that has more calls than are left.
    pub stops_some : StopsInPlace (Some n) p c made core
    stops_some cut = ⊎_elim
        (λ (all : MakesAll c made core old new). absurd (stop_not_whole c core made cut all.reached))
        (λ (some : (reply : Reply) × MakesShort c made core old new reply).
        let short = some.1 in
        stopped_last some.0 short (cut_reply (Refused Stopped) c core made cut some.0 (record { before = short.before; event = short.event; parts = short.parts; cut = short.cut; reached = short.reached })))
        makes

    -- Where the disk does what it is asked up to there,
    module _ (unharmed : Rose (g.faults old.disk) (g.faults new.disk) → ⊥) where
      is_stopped : (reply : Reply) → MakesShort c made core old new reply → reply ≡ Refused Stopped
      is_stopped reply short = ⊎_elim (λ (is : reply ≡ Refused DiskFault). absurd (unharmed (short.cause.failed (ap reply_device is)))) (λ (is : reply ≡ Refused Stopped). is) short.cut.told

      -- all events are made, or it stops there,
      pub exact_some : IsExact (Some n) p c made core
      exact_some = ⊎_elim
          (λ (all : MakesAll c made core old new). inl (all.reached, omega (arith, passes_all all)))
          (λ (some : (reply : Reply) × MakesShort c made core old new reply). inr (inl (stopped_last some.0 some.1 (is_stopped some.0 some.1))))
          makes

      -- and it lets through the calls of all events, or as many as it was to.
      pub passes_some : g.passed new.disk ≡ min n (p + total_calls c made)
      passes_some = ⊎_elim
          (λ (all : MakesAll c made core old new). omega (arith, passes_all all))
          (λ (some : (reply : Reply) × MakesShort c made core old new reply). passes_few some.0 some.1 (is_stopped some.0 some.1))
          makes

  -- A play that the disk's failing didn't end has made all events, or the disk has stopped.
  pub ends_made : (n : ℕ) → (result ≡ Ok tt) ⊎ (result ≡ Err halt.Stopped) → HasMade (Some n) c made plays.behind core
  ends_made n (inl is) = let ends = subst (Ends c made plays.behind core old new) is plays.ends in inl (ends.0, ends.1.reached)
  ends_made n (inr is) =
      let ends = subst (Ends c made plays.behind core old new) is plays.ends in
      inr (record { before = ends.before; event = ends.event; parts = ends.parts; cut = ends.cut; reached = ends.reached })
