-- What a session makes of a modelled disk, from its opening to its end.
use Rattle.std.proofs.Common.{◌≡◌, ◌≢◌, inl, inr, ⊎_elim, ℕ, ◌+◌, ◌≤◌, Bool, List, [], ◌∷◌, ◌++◌, map, Option, None, Result, Ok, Err, refl, sym, ap, ◌∙◌, subst, arith}
use Rattle.std.specs.Prelude.{◌⊎◌, IsTrue}
use Rattle.std.specs.List.{AllByRecursion}
use Rattle.std.proofs.lemmas.List.{append-nil}
use Rattle.counts.specs.Count.{Rose, counted}
use Rattle.disk_model.specs.declared.disk.Disk.{Ghosts}
use Rattle.disk_model.specs.declared.disk.DiskError.TheVariants as device
use Rattle.disk_model.specs.Disk.{Only}
use Rattle.disk_model.specs.Moments.{LeavesOnly}
use Rattle.disk_model.proofs.MomentLaws.{begins}
use Rattle.gate_slot.proofs.PassingLaws.{counted-add}
use Rattle.graph_model.specs.declared.event.Event.{Event}
use Rattle.graph_model.specs.declared.reply.Refusal.TheVariants.{DiskFault, Stopped}
use Rattle.graph_model.specs.declared.reply.Reply.{Reply}
use Rattle.graph_model.specs.declared.reply.Reply.TheVariants.{Refused}
use Rattle.graph_model.specs.History.{IsOfSession, account}
use Rattle.image_plan.specs.declared.superblock.Super.{Super}
use Rattle.heap_core.specs.Causes.{reply_device, recovery_error}
use Rattle.heap_core.specs.declared.errors.OpenError.{OpenError}
use Rattle.heap_core.specs.declared.errors.OpenError.TheVariants as opening
use Rattle.heap_core.specs.declared.heap.Heap.{Heap}
use Rattle.heap_core.specs.HeapState.{heap_disk}
use Rattle.heap_core.specs.Refinement.{IsHeap}
use Rattle.heap_model.specs.Core.{Core, IsRun}
use Rattle.heap_model.specs.CoreCrash.{IsCommitPrefix}
use Rattle.heap_model.specs.CoreRuns.{after_events, total_calls}
use Rattle.heap_model.specs.Ending.{ending}
use Rattle.heap_model.proofs.Step.Calls.{after_events-append, total_calls-append}
use Rattle.core_laws.specs.Valid.{IsReached}
use Rattle.core_laws.proofs.Run.Ending.{ending_of_session}
use Rattle.core_laws.proofs.Run.Replies.{replies_law}
use Rattle.heap_core.specs.Refinement.{SameBehind}
use Rattle.heap_program.proofs.Behind.{HasImages, played_behind}
use Rattle.heap_program.specs.declared.play.Halt.{Halt}
use Rattle.heap_program.specs.declared.play.Halt.TheVariants as halt
use Rattle.heap_program.specs.declared.status.Status.{Status}
use Rattle.heap_program.specs.declared.status.Status.TheVariants as status
use Rattle.heap_program.specs.Causes.{DiskRose, CountsStay, Unharmed}
use Rattle.heap_program.specs.Headline.{KeepsThroughout, CountsOpening, BlamesNoImage}
use Rattle.heap_program.specs.Play.{IsRunning, MadeAll, IsCutBy, MakesAll, MakesShort, Makes, Plays}
use Rattle.heap_program.specs.StatusOf.{open_status, halt_status}
use Rattle.heap_program.specs.Stored.{IsStored, stored_core, stored_calls}
use Rattle.heap_core.specs.Steps.{HeapStep, AreSteps}
use Rattle.heap_program.proofs.Causes.{disk_rose}
use Rattle.heap_program.proofs.CoreSteps.{makes_run, running_after}
use Rattle.heap_program.proofs.Counts.{counted_mono}
use Rattle.heap_core.proofs.StepsLaws.{heap_leaves}
use Rattle.heap_program.proofs.PlayFuse.{own_steps}
use Rattle.heap_program.proofs.Limits.{limits_law}
use Rattle.heap_program.proofs.PlayOpen.{stored_running, unopened_calls}
use Rattle.heap_program.proofs.PlayLaws.{ends_makes, plays_none}
use Rattle.heap_program.proofs.Ready.{AreReady}
use Rattle.heap_program.proofs.Reopened.{outside_memory}
use Rattle.heap_program.proofs.RunLaws.{end_sound}
use Rattle.heap_program.proofs.Statuses.{halt_not_done, open_not_done, halt_end}
use Rattle.heap_program.specs.Causes.{IsFaultless}
use Rattle.heap_program.proofs.Unfaulted.{halt_faulty}
use Rattle.session_program.specs.declared.ending.Break.{Break}
use Rattle.session_program.specs.declared.ending.Break.TheVariants.{Halted, ReadFault}
use Rattle.session_program.specs.declared.parts.Next.{Next}
use Rattle.session_program.specs.declared.parts.Next.TheVariants as next
use Rattle.session_program.specs.Ending.{break_status, session_device, session_status, IsUncut, next_of}
use Rattle.session_program.specs.Lines.{asked}
use Rattle.session_program.specs.Served.{NotServed, ServesEvents, IsServed}
use Rattle.session_program.specs.Session.{EndsLines, MakesSession, ServesLines, ServesLinesOn, Serves, ServesOn, lines_last, session_last, last_of}
use Rattle.session_program.proofs.Answering.{asked_sessions}
use Rattle.session_program.proofs.OnDisk.{makes_last, plays_core}
use Rattle.session_program.proofs.PlayedLines.{makes_behind}
use Rattle.session_program.proofs.Whole.{ended_as, widen, session_early, session_ended, still}
use Rattle.heap_recovery.specs.Recovered.{IsFromOutside}

module _ {D : Type 0} {g : Ghosts D} (s : Super) (tells : Bool) (left rest : List ℕ) (c : Core) (told : Bool) (before : List ℕ) where
  -- it ended at a line
  module _ (old new : Heap D g) (after : List ℕ) where
    early_last : (b : Break) (texts : List (Option (List ℕ))) (core : Core) (between : List ℕ) (ended : EndsLines tells left rest new told after (Err b) texts core between)
        → lines_last tells left rest new told after (Err b) texts core between ended ≡ session_last tells left rest new told after (Err b) texts core between (widen tells left rest c told before new after b texts core between ended)
    early_last ReadFault texts core between ended = refl
    early_last (Halted h) texts core between (inl there) = refl
    early_last (Halted h) texts core between (inr nothing) = refl

    pub early_on : (b : Break) → ServesLinesOn s tells left rest c old new told before after (Err b) → ServesOn s tells left rest c old new told before after (Err b)
    early_on b on =
        let lines = on.lines in
        record {
          serves = session_early tells left rest c told before new after b lines;
          makes = subst (λ (last : List Event × Core). MakesSession s c old new lines.answered last (Err b)) (early_last b (map (λ a. a.text) lines.answered) lines.core lines.between lines.ended) on.makes;
        }

  -- it answered all lines
  module _ (running : IsRunning c) (old mid new : Heap D g) (now after : List ℕ) (n : Next) (on : ServesLinesOn s tells left rest c old mid told before now (Ok n))
      (faults_kept : g.faults old.disk ≤ g.faults mid.disk) (stops_kept : g.stops old.disk ≤ g.stops mid.disk) where
    abbrev lines : ServesLines tells left rest c mid told before now (Ok n)
    lines = on.lines

    abbrev core : Core
    core = lines.core

    nil : asked lines.answered ++ [] ≡ asked lines.answered
    nil = append-nil (asked lines.answered)

    last_makes : (result : Result (Unit {0}) Halt) (plays : Plays s core (ending core) mid new told now after result) → ((n' : Next) → ended_as n result ≡ Ok n' → MakesAll core plays.made plays.core mid new)
        → MakesSession s c old new lines.answered (plays.made, plays.core) (ended_as n result)
    last_makes result plays all =
        makes_behind s c core (asked lines.answered) (ending core) old mid new told now after
        (subst (λ (l : List Event). AreSteps (HeapStep g) c old.disk l core mid.disk) nil on.makes.steps) (subst (λ (l : List Event). MakesAll c l core old mid) nil (on.makes.whole n refl))
        (asked_sessions lines.answered) (ending_of_session core) faults_kept stops_kept lines.answered refl plays.made plays.behind plays.core plays.parts
        (ended_as n result) plays.steps (ends_makes core plays.made plays.behind plays.core mid new result plays.ends) all plays.heap

    pub whole_on : (result : Result (Unit {0}) Halt) → Plays s core (ending core) mid new told now after result → ServesOn s tells left rest c old new told before after (ended_as n result)
    whole_on (Ok done) plays = record {
      serves = session_ended tells left rest c told before running mid new now after n lines (Ok tt) (plays_core s core (ending core) mid new told now after (Ok tt) plays);
      makes = last_makes (Ok tt) plays (λ n' is. plays.ends.1);
    }
    whole_on (Err h) plays = record {
      serves = session_ended tells left rest c told before running mid new now after n lines (Err h) (plays_core s core (ending core) mid new told now after (Err h) plays);
      makes = last_makes (Err h) plays (λ n' is. cc);
    }

  -- a line parted it, where nothing was to be done
  pub cut_on : (running : IsRunning c) (old mid : Heap D g) (now : List ℕ) → ServesLinesOn s tells left rest c old mid told before now (Ok next.Reopen) → g.faults old.disk ≤ g.faults mid.disk → g.stops old.disk ≤ g.stops mid.disk
      → ServesOn s tells left rest c old mid told before now (Ok next.Reopen)
  cut_on running old mid now on faults_kept stops_kept =
      let core = on.lines.core in
      whole_on running old mid mid now now next.Reopen on faults_kept stops_kept (Ok tt) (subst (λ (l : List Event). Plays s core l mid mid told now now (Ok tt)) (sym on.lines.ended.2) (plays_none s core mid told now on.makes.heap))

-- A session that ended so, on the heap that was opened from a stored image.
module _ {D : Type 0} {g : Ghosts D} {bytes : List ℕ} (stored : IsStored bytes) (running : IsRunning (stored_core stored)) (tells : Bool) (left rest : List ℕ) (start : D) (old new : Heap D g) (told : Bool) (before after : List ℕ) (result : Result Next Break)
    (on : ServesOn stored.heap.super tells left rest (stored_core stored) old new told before after result) where
  abbrev c : Core
  c = stored_core stored

  abbrev n : ℕ
  n = stored_calls stored

  abbrev last : List Event × Core
  last = last_of tells left rest c new told before after result on.serves

  abbrev made : List Event
  made = asked on.serves.answered ++ last.0

  abbrev at_end : Core
  at_end = last.1

  ready : AreReady c made
  ready = record { running = running; sessions = on.makes.own }

  run : IsRun c made at_end × IsReached at_end
  run = makes_run c made [] at_end old new (subst (AreReady c) (sym (append-nil made)) ready) on.makes.makes

  kept : (image : List ℕ) → g.may_leave new.disk image → IsCommitPrefix at_end image
  kept = heap_leaves stored.heap.super at_end new on.makes.heap run.1

  -- nothing is unsynced where the disk did what it was asked
  settled : MadeAll c made at_end → Only (g.bytes new.disk) (g.may_leave new.disk)
  settled whole = (on.makes.heap.disk.unfailed (ap (λ (x : Core). (account x.history).failed) whole ∙ (running_after c made ready).unfailed)).only

  done_made : session_status result ≡ status.Done → MadeAll c made at_end
  done_made is = let some = is_done result is in (on.makes.whole some.0 some.1).reached
    where
      is_done : (r : Result Next Break) → session_status r ≡ status.Done → (n' : Next) × (r ≡ Ok n')
      is_done (Ok n') is = (n', refl)
      is_done (Err ReadFault) is = cc
      is_done (Err (Halted h)) is = absurd (halt_not_done h is)

  -- It let through no more than the calls of all events, whether or not the disk failed.
  short_most : (reply : Reply) → MakesShort c made at_end old new reply → g.passed new.disk ≤ counted (total_calls c made) (g.passed old.disk)
  short_most reply short =
      let few = short.most in
      let total : total_calls c made ≡ total_calls c short.before + total_calls (after_events c short.before) (short.event ∷ []) = ap (total_calls c) short.parts ∙ total_calls-append c short.before (short.event ∷ []) in
      let more = counted_mono (total_calls c short.before + few.0) (total_calls c made) (g.passed old.disk) (omega (arith, few.1, total)) in
      omega (arith, few.2, more)

  most : g.passed new.disk ≤ counted (total_calls c made) (g.passed old.disk)
  most = ⊎_elim
      (λ (all : MakesAll c made at_end old new). omega (arith, all.passes))
      (λ (some : (reply : Reply) × MakesShort c made at_end old new reply). short_most some.0 some.1)
      on.makes.makes

  module _ (unharmed : DiskRose (g.faults old.disk) (g.stops old.disk) (g.faults new.disk) (g.stops new.disk) → ⊥) where
    short_harm : (reply : Reply) → MakesShort c made at_end old new reply → DiskRose (g.faults old.disk) (g.stops old.disk) (g.faults new.disk) (g.stops new.disk)
    short_harm reply short = ⊎_elim
        (λ (is : reply ≡ Refused DiskFault). disk_rose _ _ _ _ (reply_device reply) device.Failed short.cause (ap reply_device is))
        (λ (is : reply ≡ Refused Stopped). disk_rose _ _ _ _ (reply_device reply) device.Stopped short.cause (ap reply_device is))
        short.cut.told

    -- Where the disk does what it is asked, all events were made, with all their calls.
    exact : MakesAll c made at_end old new
    exact = ⊎_elim
        (λ (all : MakesAll c made at_end old new). all)
        (λ (some : (reply : Reply) × MakesShort c made at_end old new reply). absurd (unharmed (short_harm some.0 some.1)))
        on.makes.makes

  pub served_opened : IsTrue g.tells → HasImages g → LeavesOnly g.moment g.left_since start old.disk (IsCommitPrefix c) → LeavesOnly g.moment g.left_since start old.disk (SameBehind c (g.bytes start))
      → ((image : List ℕ) → g.may_leave old.disk image → IsCommitPrefix c image) → g.passed old.disk ≡ counted n (g.passed start) → g.restarts old.disk ≡ g.restarts start → CountsStay g start old.disk
      → (Unharmed g start new.disk → Unharmed g old.disk new.disk) → IsServed g n tells left rest c start new.disk (session_status result) (next_of result) told before after
  served_opened told_disk has opening behind here passed restarts counts unharmed =
      let sum = ap (counted (total_calls c made)) passed ∙ counted-add (total_calls c made) n (g.passed start) in
      record {
        made = made;
        core = at_end;
        run = inr (record { heap = new; disk = refl; result = result; status = refl; next = refl; serves = on.serves; events = refl; reached = refl });
        last = makes_last c made at_end old new on.makes.makes;
        limits = limits_law c running.reached refl made on.makes.own at_end;
        disk = record {
          opened = old.disk;
          opening = opening;
          here = here;
          passed = λ u some. passed;
          few = omega (arith, passed);
          restarts = restarts;
          still = λ some. counts;
          stopped = new.disk;
          steps = own_steps g start told_disk c at_end old.disk new.disk made on.makes.steps;
          rest = begins g.moment g.left_since new.disk (IsCommitPrefix at_end) (λ image since. kept image (has.now new.disk image since));
          kept = kept;
          outside = played_behind g has (g.bytes start) None start c at_end start old.disk new.disk made behind (own_steps g start told_disk c at_end old.disk new.disk made on.makes.steps);
        };
        same = refl;
        exact = λ u. (exact (unharmed u)).reached;
        counts = n;
        opens = inl refl;
        calls = λ u. (exact (unharmed u)).passes ∙ sum;
        most = subst (λ (m : ℕ). g.passed new.disk ≤ m) sum most;
        replies = replies_law at_end run.1;
        durable = λ is. settled (done_made is);
        settled = λ other whole. settled whole;
      }

-- The heap was not opened: no event was made, and nothing was written.
module _ {D : Type 0} (g : Ghosts D) {bytes : List ℕ} (stored : IsStored bytes) where
  pub served_none : (tells : Bool) (left rest : List ℕ) (start final : D) (e : OpenError) (told : Bool) (before : List ℕ) → IsFromOutside (recovery_error e)
      → LeavesOnly g.moment g.left_since start final (IsCommitPrefix (stored_core stored)) → LeavesOnly g.moment g.left_since start final (SameBehind (stored_core stored) (g.bytes start)) → ((image : List ℕ) → g.may_leave final image → IsCommitPrefix (stored_core stored) image)
      → ((image : List ℕ) → g.left_since final (g.moment final) image → g.may_leave final image) → g.restarts final ≡ g.restarts start
      → (e ≡ opening.NoMemory → g.passed final ≡ g.passed start) → (e ≢ opening.NoMemory → Unharmed g start final → ⊥)
      → g.passed final ≤ counted (stored_calls stored) (g.passed start) → g.passed final ≤ counted (stored_calls stored + 0) (g.passed start) → (open_status e ≡ status.NoMemory → Only (g.bytes final) (g.may_leave final))
      → IsServed g (stored_calls stored) tells left rest (stored_core stored) start final (open_status e) next.End told before before
  served_none tells left rest start final e told before outside moments behind here now restarts same harm few most only =
      let c = stored_core stored in
      let calls = unopened_calls None (stored_calls stored) (g.passed start) (g.passed final) (Unharmed g start final) e (open_status e) refl outside same harm in
      record {
        made = [];
        core = c;
        run = inl (record { early = open_not_done e; none = refl; same = refl; nothing = λ t. refl });
        last = inl refl;
        limits = limits_law c (stored_running g stored).reached refl [] tt c;
        disk = record {
          opened = final;
          opening = moments;
          here = here;
          passed = λ u some. absurd (some refl);
          few = few;
          restarts = restarts;
          still = λ some. absurd (some refl);
          stopped = final;
          steps = (refl, refl);
          rest = begins g.moment g.left_since final (IsCommitPrefix c) (λ image since. here image (now image since));
          kept = here;
          outside = behind;
        };
        same = refl;
        exact = λ u. refl;
        counts = calls.0;
        opens = calls.1;
        calls = calls.2;
        most = most;
        replies = refl;
        durable = λ done. absurd (open_not_done e done);
        settled = λ other whole. only (outside_memory e outside other);
      }

-- a session that breaks off without a fault was cut short in no event
pub broken_uncut : (b : Break) → IsFaultless (break_status b) → IsUncut (Err b)
broken_uncut (Halted h) none = halt_faulty h none
broken_uncut ReadFault none = tt

-- one that ended in the midst says nothing against the image
pub broken_sound : (b : Break) → BlamesNoImage (break_status b)
broken_sound (Halted h) = end_sound (halt_status h) (halt_end h)
broken_sound ReadFault = tt

-- Without a fault a session is done, or memory ran out.
pub broken_memory : (b : Break) → (b ≡ ReadFault → ⊥) → (b ≡ Halted halt.WriteFault → ⊥) → (session_device (Err b) ≡ Err device.Failed → ⊥) → (session_device (Err b) ≡ Err device.Stopped → ⊥)
    → (break_status b ≡ status.Done) ⊎ (break_status b ≡ status.NoMemory)
broken_memory ReadFault read write failed stopped = absurd (read refl)
broken_memory (Halted halt.NoMemory) read write failed stopped = inr refl
broken_memory (Halted halt.WriteFault) read write failed stopped = absurd (write refl)
broken_memory (Halted halt.DiskFault) read write failed stopped = absurd (failed refl)
broken_memory (Halted halt.Stopped) read write failed stopped = absurd (stopped refl)
