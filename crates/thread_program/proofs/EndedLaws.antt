-- How the events that end a run come out.
use Rattle.std.proofs.Common.{◌≡◌, ◌≢◌, ◌⊎◌, inl, inr, ⊎_elim, ℕ, List, [], ◌++◌, Bool, true, false, Option, Some, None, Result, Ok, Err, refl, sym, ap, ◌∙◌, subst}
use Rattle.std.specs.Prelude.{is_some}
use Rattle.std.specs.List.{AllByRecursion}
use Rattle.std.proofs.lemmas.Bool.{false≢true}
use Rattle.std.specs.declared.alloc.AllocError.{AllocError}
use Rattle.disk_model.specs.declared.disk.Disk.{Ghosts}
use Rattle.disk_model.specs.declared.disk.DiskError.TheVariants as device
use Rattle.graph_model.specs.declared.event.Event.{Event}
use Rattle.graph_model.specs.declared.reply.Refusal.TheVariants.{DiskFault, Stopped}
use Rattle.graph_model.specs.declared.reply.Reply.{Reply}
use Rattle.graph_model.specs.declared.reply.Reply.TheVariants.{Refused}
use Rattle.graph_model.specs.History.{account, IsOfSession}
use Rattle.heap_core.specs.declared.heap.Heap.{Heap}
use Rattle.heap_core.specs.HeapState.{failed_at}
use Rattle.heap_core.specs.Refinement.{IsCore, IsHeap}
use Rattle.heap_core.specs.Steps.{HeapStep, AreSteps}
use Rattle.heap_model.specs.Core.{Core, IsRun}
use Rattle.heap_model.specs.Ending.{ending}
use Rattle.core_laws.specs.Ended.{IsUnfailed}
use Rattle.core_laws.proofs.Run.Calls.{unfailed_events, of_session_front}
use Rattle.core_laws.proofs.Run.Ending.{ending_of_session}
use Rattle.heap_program.specs.declared.play.Halt.{Halt}
use Rattle.heap_program.specs.declared.play.Halt.TheVariants as halt
use Rattle.heap_program.specs.Causes.{DiskRose, CountsStay, PlaysDisk, played_device}
use Rattle.heap_program.specs.Play.{IsRunning, MadeAll, IsCutBy, EndsAs, PlaysCore, Ends, Plays}
use Rattle.heap_program.proofs.Causes.{was_rose}
use Rattle.image_plan.specs.declared.superblock.Super.{Super}
use Rattle.thread_program.specs.Ended.{EndsBy, is_played_out}
use Rattle.thread_program.specs.Together.{IsCutAmong}
use Rattle.thread_program.proofs.TogetherLaws.{cut_failed, failed_some}

-- whether something is modelled
pub told_some : {A : Type 0} (o : Option A) → is_some o ≡ true → o ≢ None
told_some o some none = false≢true (sym (ap is_some none) ∙ some)

pub told_none : {A : Type 0} (o : Option A) → is_some o ≡ false → o ≡ None
told_none None none = refl
told_none (Some x) none = absurd (false≢true (sym none))

pub is_none : {A : Type 0} (o : Option A) → (o ≡ None) ⊎ (o ≢ None)
is_none None = inl refl
is_none (Some x) = inr (λ none. cc)

-- What a play of the ending events that was not cut short by memory says: all were made, or the disk failed or stopped in the last of them.
abbrev pub EndsWell : Core → List Event → List Event → Core → Type 0 → Type 0
EndsWell c made unmade d rose = ((unmade ≡ []) × MadeAll c made d) ⊎ (rose × IsCutAmong c made d)

-- an event that is the last is one of them
cut_among : (reply : Reply) (c d : Core) (made : List Event) → IsCutBy reply c made d → IsCutAmong c made d
cut_among reply c d made cut = record { before = cut.before; event = cut.event; behind = []; parts = cut.parts; reply = reply; cut = cut.cut; reached = cut.reached }

-- Nothing is made where the disk has failed.
pub ends_none : (c : Core) (rose : Type 0) (reaches : List Event → Core → Type 0) → (account c.history).failed ≢ None → reaches [] c → EndsBy c (Ok tt) rose reaches
ends_none c rose reaches failed reached = record {
  made = [];
  unmade = ending c;
  core = c;
  reached = reached;
  parts = refl;
  none = λ is. refl;
  all = λ is. inr failed;
  cause = λ ok unfailed. absurd (failed unfailed);
}

module _ (c : Core) (running : IsRunning c) (made unmade : List Event) (d : Core) (parts : ending c ≡ made ++ unmade) (rose : Type 0) (reaches : List Event → Core → Type 0) (reached : reaches made d) where
  sessions : AllByRecursion IsOfSession made
  sessions = of_session_front made unmade (subst (AllByRecursion IsOfSession) parts (ending_of_session c))

  -- memory ran out
  pub ends_first : (e : AllocError) → EndsBy c (Err e) rose reaches
  ends_first e = record {
    made = made;
    unmade = unmade;
    core = d;
    reached = reached;
    parts = parts;
    none = λ failed. absurd (failed running.unfailed);
    all = λ ok. cc;
    cause = λ ok. cc;
  }

  -- all were made, or the disk failed or stopped
  pub ends_well : EndsWell c made unmade d rose → EndsBy c (Ok tt) rose reaches
  ends_well well = record {
    made = made;
    unmade = unmade;
    core = d;
    reached = reached;
    parts = parts;
    none = λ failed. absurd (failed running.unfailed);
    all = λ ok. ⊎_elim
        (λ (all : (unmade ≡ []) × MadeAll c made d). inl all.0)
        (λ (cut : rose × IsCutAmong c made d). inr (failed_some d (cut_failed c d made running.reached running.unfailed sessions cut.1)))
        well;
    cause = λ ok unfailed failed. ⊎_elim
        (λ (all : (unmade ≡ []) × MadeAll c made d). absurd (failed (subst IsUnfailed (sym all.1) (unfailed_events c made running.reached running.unfailed sessions))))
        (λ (cut : rose × IsCutAmong c made d). cut.0)
        well;
  }

module _ {D : Type 0} {g : Ghosts D} (old new : Heap D g) (c : Core) (running : IsRunning c) (told : Bool) (before after : List ℕ) where
  abbrev rose : Type 0
  rose = DiskRose (g.faults old.disk) (g.stops old.disk) (g.faults new.disk) (g.stops new.disk)

  well : (result : Result (Unit {0}) Halt) (made unmade : List Event) (d : Core) → is_played_out result ≡ true → PlaysDisk g old.disk new.disk (played_device result) (result ≡ Ok tt) → EndsAs c made unmade d result → EndsWell c made unmade d rose
  well (Ok done) made unmade d is keeps ends = inl ends
  well (Err halt.DiskFault) made unmade d is keeps ends = inr (was_rose _ _ _ _ (played_device (Err halt.DiskFault)) device.Failed keeps.cause refl, cut_among (Refused DiskFault) c d made ends)
  well (Err halt.Stopped) made unmade d is keeps ends = inr (was_rose _ _ _ _ (played_device (Err halt.Stopped)) device.Stopped keeps.cause refl, cut_among (Refused Stopped) c d made ends)
  well (Err halt.NoMemory) made unmade d is keeps ends = absurd (false≢true is)
  well (Err halt.WriteFault) made unmade d is keeps ends = absurd (false≢true is)

  ends_as : (result : Result (Unit {0}) Halt) (made unmade : List Event) (d : Core) → is_played_out result ≡ true → Ends c made unmade d old new result → EndsAs c made unmade d result
  ends_as (Ok done) made unmade d is ends = (ends.0, ends.1.reached)
  ends_as (Err halt.DiskFault) made unmade d is ends = record { before = ends.before; event = ends.event; parts = ends.parts; cut = ends.cut; reached = ends.reached }
  ends_as (Err halt.Stopped) made unmade d is ends = record { before = ends.before; event = ends.event; parts = ends.parts; cut = ends.cut; reached = ends.reached }
  ends_as (Err halt.NoMemory) made unmade d is ends = absurd (false≢true is)
  ends_as (Err halt.WriteFault) made unmade d is ends = absurd (false≢true is)

  -- a heap whose last event was cut short has failed
  never : (reply : Reply) (made unmade : List Event) (d : Core) → ending c ≡ made ++ unmade → IsCore d new → IsCutBy reply c made d → failed_at new ≡ None → ⊥
  never reply made unmade d parts is cut unfailed =
      let own = of_session_front made unmade (subst (AllByRecursion IsOfSession) parts (ending_of_session c)) in
      failed_some d (cut_failed c d made running.reached running.unfailed own (cut_among reply c d made cut)) (sym is.memory.failure ∙ unfailed)

  -- On every disk.
  abbrev pub ReachesCore : List Event → Core → Type 0
  ReachesCore made d = IsRun c made d × IsCore d new

  pub core_well : (result : Result (Unit {0}) Halt) → is_played_out result ≡ true → PlaysDisk g old.disk new.disk (played_device result) (result ≡ Ok tt) → PlaysCore c (ending c) new told before after result → EndsBy c (Ok tt) rose ReachesCore
  core_well result is keeps plays =
      ends_well c running plays.made plays.behind plays.core plays.parts rose ReachesCore (plays.run, plays.is) (well result plays.made plays.behind plays.core is keeps plays.ends)

  -- where the heap has not failed then, all were made, and no fault of the disk was ignored
  pub core_still : (result : Result (Unit {0}) Halt) → is_played_out result ≡ true → PlaysDisk g old.disk new.disk (played_device result) (result ≡ Ok tt) → PlaysCore c (ending c) new told before after result → failed_at new ≡ None → CountsStay g old.disk new.disk
  core_still (Ok done) is keeps plays unfailed = keeps.still refl
  core_still (Err halt.DiskFault) is keeps plays unfailed = absurd (never (Refused DiskFault) plays.made plays.behind plays.core plays.parts plays.is plays.ends unfailed)
  core_still (Err halt.Stopped) is keeps plays unfailed = absurd (never (Refused Stopped) plays.made plays.behind plays.core plays.parts plays.is plays.ends unfailed)
  core_still (Err halt.NoMemory) is keeps plays unfailed = absurd (false≢true is)
  core_still (Err halt.WriteFault) is keeps plays unfailed = absurd (false≢true is)

  pub core_first : (result : Result (Unit {0}) Halt) (e : AllocError) → PlaysCore c (ending c) new told before after result → EndsBy c (Err e) rose ReachesCore
  core_first result e plays = ends_first c running plays.made plays.behind plays.core plays.parts rose ReachesCore (plays.run, plays.is) e

  -- On a modelled one.
  module _ (s : Super) where
    abbrev pub ReachesHeap : List Event → Core → Type 0
    ReachesHeap made d = AreSteps (HeapStep g) c old.disk made d new.disk × IsHeap s d new

    pub heap_well : (result : Result (Unit {0}) Halt) → is_played_out result ≡ true → PlaysDisk g old.disk new.disk (played_device result) (result ≡ Ok tt) → Plays s c (ending c) old new told before after result → EndsBy c (Ok tt) rose ReachesHeap
    heap_well result is keeps plays =
        ends_well c running plays.made plays.behind plays.core plays.parts rose ReachesHeap (plays.steps, plays.heap)
        (well result plays.made plays.behind plays.core is keeps (ends_as result plays.made plays.behind plays.core is plays.ends))

    pub heap_first : (result : Result (Unit {0}) Halt) (e : AllocError) → Plays s c (ending c) old new told before after result → EndsBy c (Err e) rose ReachesHeap
    heap_first result e plays = ends_first c running plays.made plays.behind plays.core plays.parts rose ReachesHeap (plays.steps, plays.heap) e
