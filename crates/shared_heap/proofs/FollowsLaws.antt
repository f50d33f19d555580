-- What a heap becomes by one more event.
use Rattle.std.proofs.Common.{◌≡◌, ℕ, List, [], ◌∷◌, ◌++◌, Result, Ok, Err, sym, refl, ap, ◌∙◌, subst, arith, append_assoc, append-nil}
use Rattle.std.proofs.lemmas.List.{map-append}
use Rattle.std.specs.Prelude.{IsOk, IsTrue, MatchResult, None, IfOk, OnErr}
use Rattle.std.specs.List.{AllByRecursion}
use Rattle.std.specs.declared.alloc.AllocError.{AllocError}
use Rattle.disk_model.specs.declared.disk.Disk.{Ghosts}
use Rattle.disk_model.specs.declared.disk.DiskError.{DiskError}
use Rattle.disk_model.specs.Keeps.{KeepsDisk}
use Rattle.disk_model.specs.Moments.{LeavesOnly}
use Rattle.gate_slot.specs.Passing.{Passes}
use Rattle.graph_model.specs.declared.event.Event.{Event}
use Rattle.graph_model.specs.declared.reply.Entry.{Entry}
use Rattle.graph_model.specs.declared.reply.Reply.{Reply}
use Rattle.graph_model.specs.History.{account, IsOfSession}
use Rattle.image_plan.specs.declared.superblock.Super.{Super}
use Rattle.heap_core.specs.declared.heap.Heap.{Heap}
use Rattle.heap_core.specs.Causes.{IsCausedBy, reply_device, step_device}
use Rattle.heap_core.specs.Ending.{TakesNoMemory}
use Rattle.heap_core.specs.HeapState.{heap_disk, history_of}
use Rattle.heap_core.specs.Refinement.{DiskHolds, IsCore, IsHeap, IsLeftByStep}
use Rattle.heap_core.specs.Steps.{HeapStep, AreSteps}
use Rattle.heap_core.proofs.CausesLaws.{caused_once, caused_since, caused_until}
use Rattle.heap_core.proofs.StepsLaws.{one_steps, steps_append, heap_leaves}
use Rattle.heap_model.specs.Core.{Core, IsStep, IsRun, calls, cut}
use Rattle.heap_model.specs.CoreCrash.{IsCommitPrefix}
use Rattle.heap_model.proofs.Step.Calls.{run_step}
use Rattle.core_laws.proofs.Run.Events.{run_reached}
use Rattle.core_laws.specs.Valid.{IsReached}
use Rattle.shared_heap.proofs.Lists.{all_last, all_parts, all_weaker}
use Rattle.shared_heap.specs.Follows.{events_of, StaysDisk, Reaches, ReachesOn, IsCaused, IsUncut, Follows}
use Rattle.shared_heap.specs.Shared.{Told, ToldOf, MayLackMemory}

module _ {D : Type 0} (g : Ghosts D) where
  -- steps on a disk are a run of the core
  steps_run : (c d : Core) (old new : D) (events : List Event) → AreSteps (HeapStep g) c old events d new → IsRun c events d
  steps_run c d old new [] steps = steps.0
  steps_run c d old new (event ∷ events) steps = (steps.2.reply, steps.0, steps.2.step, steps_run steps.0 d steps.1 new events steps.3)

module _ {D : Type 0} {g : Ghosts D} where
  -- no call was made
  pub stays_none : (disk : D) → StaysDisk g disk disk
  stays_none disk = record { extent = refl; origin = refl; faults_kept = omega arith; stops_kept = omega arith; restarts = λ told. refl }

  -- one more call, whatever it was answered
  pub stays_on : {T : Type 0} (old mid new : D) (result : Result T DiskError) → StaysDisk g old mid → KeepsDisk g mid new result → StaysDisk g old new
  stays_on old mid new result stays kept = record {
    extent = kept.extent ∙ stays.extent;
    origin = kept.origin ∙ stays.origin;
    faults_kept = omega (arith, stays.faults_kept, kept.cause.faults_kept);
    stops_kept = omega (arith, stays.stops_kept, kept.cause.stops_kept);
    restarts = λ told. kept.restarts told ∙ stays.restarts told;
  }

  -- Nothing has happened.
  pub follows_itself : (heap : Heap D g) → Follows heap heap
  follows_itself heap = record {
    since = [];
    history = sym (append-nil (history_of heap));
    sessions = tt;
    disk = stays_none (heap_disk heap);
    causes = tt;
    still = λ none. (refl, refl);
    core = λ c is reached. record { core = c; run = refl; is = is };
    holds = λ tells s c is reached. record { core = c; steps = (refl, refl); is = is };
  }

  module _ (first old new : Heap D g) (event : Event) (session : IsOfSession event) (reply : Reply) (more : history_of new ≡ history_of old ++ record { event = event; reply = reply } ∷ [])
      (kept : KeepsDisk g (heap_disk old) (heap_disk new) (reply_device reply))
      (next : (c : Core) → IsCore c old → IsReached c → (d : Core) × IsStep c event reply d × IsCore d new)
      (holds : IsTrue g.tells → (s : Super) (c : Core) → IsHeap s c old → IsReached c → (d : Core) × IsStep c event reply d × IsHeap s d new)
      (moments : IsTrue g.tells → (s : Super) (c : Core) → IsHeap s c old → IsReached c → LeavesOnly g.moment g.left_since (heap_disk old) (heap_disk new) (IsLeftByStep (cut c event) (g.bytes (heap_disk old))))
      (passes : IsTrue g.tells → (c : Core) → IsCore c old → IsReached c → Passes (calls c event) (g.passed (heap_disk old)) (g.passed (heap_disk new)) (reply_device reply))
      (f : Follows first old) where
    abbrev entry : Entry
    entry = record { event = event; reply = reply }

    abbrev all : List Entry
    all = f.since ++ entry ∷ []

    all_events : events_of all ≡ events_of f.since ++ event ∷ []
    all_events = map-append (λ (e : Entry). e.event) f.since (entry ∷ [])

    reaches : (c : Core) → IsCore c first → IsReached c → Reaches c all (λ d. IsCore d new)
    reaches c is reached =
        let r = f.core c is reached in
        let n = next r.core r.is (run_reached c r.core (events_of f.since) reached f.sessions r.run) in
        record { core = n.0; run = subst (λ l. IsRun c l n.0) (sym all_events) (run_step c r.core n.0 (events_of f.since) event reply r.run n.1); is = n.2 }

    reaches_on : IsTrue g.tells → (s : Super) (c : Core) → IsHeap s c first → IsReached c → ReachesOn s c all first new
    reaches_on tells s c is reached =
        let r = f.holds tells s c is reached in
        let at = run_reached c r.core (events_of f.since) reached f.sessions (steps_run g c r.core (heap_disk first) (heap_disk old) (events_of f.since) r.steps) in
        let n = holds tells s r.core r.is at in
        let last = one_steps s r.core n.0 event reply old new at session n.1 kept (passes tells r.core r.is.core at) (moments tells s r.core r.is at) n.2 in
        record {
          core = n.0;
          steps = subst (λ l. AreSteps (HeapStep g) c (heap_disk first) l n.0 (heap_disk new)) (sym all_events)
              (steps_append (HeapStep g) c r.core n.0 (heap_disk first) (heap_disk old) (heap_disk new) (events_of f.since) (event ∷ []) r.steps last);
          is = n.2;
        }

    -- One more event.
    pub follows_step : Follows first new
    follows_step =
        record {
          since = all;
          history = more ∙ ap (λ (l : List Entry). l ++ entry ∷ []) f.history ∙ append_assoc (history_of first) f.since (entry ∷ []);
          sessions = subst (AllByRecursion IsOfSession) (sym all_events) (all_last IsOfSession (events_of f.since) event f.sessions session);
          disk = stays_on (heap_disk first) (heap_disk old) (heap_disk new) (reply_device reply) f.disk kept;
          causes = all_last (IsCaused first new) f.since entry (all_weaker (IsCaused first old) (IsCaused first new)
              (λ earlier cause. caused_until g (heap_disk first) (heap_disk old) (heap_disk new) earlier.reply kept.cause.faults_kept kept.cause.stops_kept cause) f.since f.causes)
              (caused_since g (heap_disk first) (heap_disk old) (heap_disk new) reply f.disk.faults_kept f.disk.stops_kept (caused_once g (heap_disk old) (heap_disk new) reply kept.cause));
          still = λ none.
              let parts = all_parts IsUncut f.since entry none in
              let before = f.still parts.0 in
              (kept.cause.faults_still (λ is. let never = sym parts.1 ∙ is in cc never) ∙ before.0, kept.cause.stops_still (λ is. let never = sym parts.1 ∙ is in cc never) ∙ before.1);
          core = reaches;
          holds = reaches_on;
        }

  -- An event that ran out of memory.
  pub follows_still : (first old new : Heap D g) → history_of new ≡ history_of old → heap_disk new ≡ heap_disk old → ((c : Core) → IsCore c old → IsCore c new) → Follows first old → Follows first new
  follows_still first old new same still kept f = record {
    since = f.since;
    history = same ∙ f.history;
    sessions = f.sessions;
    disk = subst (λ (disk : D). StaysDisk g (heap_disk first) disk) (sym still) f.disk;
    causes = all_weaker (IsCaused first old) (IsCaused first new)
        (λ entry cause. subst (λ (disk : D). IsCausedBy g (heap_disk first) disk entry.reply) (sym still) cause) f.since f.causes;
    still = λ none. let before = f.still none in (ap g.faults still ∙ before.0, ap g.stops still ∙ before.1);
    core = λ c is reached. let r = f.core c is reached in record { core = r.core; run = r.run; is = kept r.core r.is };
    holds = λ tells s c is reached.
        let r = f.holds tells s c is reached in
        record {
          core = r.core;
          steps = subst (λ (disk : D). AreSteps (HeapStep g) c (heap_disk first) (events_of f.since) r.core disk) (sym still) r.steps;
          is = record { core = kept r.core r.is.core; disk = subst (λ (disk : D). DiskHolds s r.core (g.bytes disk) (g.may_leave disk)) (sym still) r.is.disk };
        };
  }

  -- Whatever the event was answered.
  pub follows_on : (first old new : Heap D g) (event : Event) → IsOfSession event → (result : Result Reply AllocError)
      → KeepsDisk g (heap_disk old) (heap_disk new) (step_device result)
      → MatchResult result (λ reply. history_of new ≡ history_of old ++ record { event = event; reply = reply } ∷ []) (λ _. history_of new ≡ history_of old)
      → ((c : Core) → IsCore c old → IsReached c → IfOk result (λ reply. (d : Core) × IsStep c event reply d × IsCore d new))
      → ((c : Core) → IsCore c old → OnErr result (IsCore c new))
      → OnErr result (heap_disk new ≡ heap_disk old)
      → (IsTrue g.tells → (s : Super) (c : Core) → IsHeap s c old → IsReached c → IfOk result (λ reply. (d : Core) × IsStep c event reply d × IsHeap s d new))
      → (IsTrue g.tells → (s : Super) (c : Core) → IsHeap s c old → IsReached c → LeavesOnly g.moment g.left_since (heap_disk old) (heap_disk new) (IsLeftByStep (cut c event) (g.bytes (heap_disk old))))
      → (IsTrue g.tells → (c : Core) → IsCore c old → IsReached c → IfOk result (λ reply. Passes (calls c event) (g.passed (heap_disk old)) (g.passed (heap_disk new)) (reply_device reply)))
      → Follows first old → Follows first new
  follows_on first old new event session (Ok reply) kept recorded core same untouched holds moments passes f = follows_step first old new event session reply recorded kept core holds moments passes f
  follows_on first old new event session (Err e) kept recorded core same untouched holds moments passes f = follows_still first old new recorded untouched same f

  -- What was seen of its history is a run.
  follows_told_of : (first now : Heap D g) (seen : List Entry) → seen ≡ history_of now → Follows first now → (P : Core → Type 0) → ((d : Core) → IsCore d now → IsReached d → P d) → ToldOf first seen P
  follows_told_of first now seen same f P holds c is reached =
      let r = f.core c is reached in
      (f.since, r.core, same ∙ f.history, r.run, sym r.is.history ∙ sym same, holds r.core r.is (run_reached c r.core (events_of f.since) reached f.sessions r.run))

  pub follows_told : (first now : Heap D g) (seen : List Entry) → seen ≡ history_of now → Follows first now → Told first seen
  follows_told first now seen same f = follows_told_of first now seen same f (λ d. Unit {0}) (λ d is reached. tt)

  -- Where memory ran out, what was seen ends where that may be.
  pub follows_lacking : (first old : Heap D g) (event : Event) (seen log : List Entry) (result : Result Reply AllocError) → seen ≡ log
      → MatchResult result (λ reply. log ≡ history_of old ++ record { event = event; reply = reply } ∷ []) (λ _. log ≡ history_of old)
      → ((c : Core) → IsCore c old → IsReached c → (account c.history).failed ≡ None → TakesNoMemory c event → IsOk result)
      → Follows first old → OnErr result (ToldOf first seen (MayLackMemory event))
  follows_lacking first old event seen log (Ok reply) same recorded memory f = tt
  follows_lacking first old event seen log (Err e) same recorded memory f =
      follows_told_of first old seen (same ∙ recorded) f (MayLackMemory event) (λ d is reached unfailed takes. let ok = memory d is reached unfailed takes in cc)

  -- What it has become continues as a core that was reached, and a crash leaves a commit prefix of it.
  pub follows_keeps : (first now : Heap D g) → Follows first now → IsTrue g.tells → (s : Super) (c : Core) → IsHeap s c first → IsReached c
      → (d : Core) × IsHeap s d now × IsReached d × ((image : List ℕ) → g.may_leave (heap_disk now) image → IsCommitPrefix d image)
  follows_keeps first now f tells s c is reached =
      let r = f.holds tells s c is reached in
      let at = run_reached c r.core (events_of f.since) reached f.sessions (steps_run g c r.core (heap_disk first) (heap_disk now) (events_of f.since) r.steps) in
      (r.core, r.is, at, heap_leaves s r.core now r.is at)
