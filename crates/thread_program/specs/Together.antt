-- What a run promises whose script is played by its workers: each sends the events of its own lines in their order, and all have one history.
use Rattle.std.proofs.Common.{inl, inr}
use Rattle.std.specs.Prelude.{◌≡◌, ◌≢◌, ◌⊎◌, ℕ, ◌+◌, ◌≤◌, List, [], ◌∷◌, ◌++◌, length, Bool, IsTrue, IsOk, IsErr, Option, None, Some, Result}
use Rattle.std.specs.List.{AllByRecursion}
use Rattle.std.specs.declared.alloc.AllocError.{AllocError}
use Rattle.counts.specs.Count.{counted}
use Rattle.disk_model.specs.declared.disk.Disk.{Ghosts}
use Rattle.disk_model.specs.Disk.{Only}
use Rattle.disk_model.specs.Moments.{LeavesOnly}
use Rattle.graph_model.specs.declared.event.Event.{Event}
use Rattle.graph_model.specs.declared.reply.Reply.{Reply}
use Rattle.graph_model.specs.History.{IsOfSession, account, sealed, commits, acknowledged}
use Rattle.graph_model.specs.Transaction.{serial, serial_replies}
use Rattle.image_plan.specs.declared.superblock.Super.{Super}
use Rattle.commit_order.specs.Heard.{replies_of_commits}
use Rattle.heap_core.specs.declared.heap.Heap.{Heap}
use Rattle.heap_core.specs.HeapState.{heap_disk}
use Rattle.heap_core.specs.Refinement.{IsHeap}
use Rattle.heap_core.specs.Steps.{HeapStep, AreSteps}
use Rattle.heap_model.specs.Core.{Core, with_entry, IsCutShort, IsRun}
use Rattle.heap_model.specs.CoreCrash.{HasAtLeast}
use Rattle.heap_model.specs.CoreRuns.{after_events, total_calls}
use Rattle.heap_model.specs.Ending.{ending, all_events}
use Rattle.heap_model.specs.Image.{StoredHeap, StandsFor}
use Rattle.script_text.specs.declared.line.Line.{Line}
pub use Rattle.thread_play.specs.Worked.{IsWorked}
use Rattle.heap_program.specs.declared.status.Status.{Status}
use Rattle.heap_program.specs.declared.status.Status.TheVariants as status
use Rattle.heap_program.specs.Causes.{Unharmed}
use Rattle.heap_program.specs.CrashSafe.{LastingStep}
use Rattle.heap_program.specs.Headline.{lasting, made_super, made_core, graph_text, CountsOpening, IsOpened, IsEndOfPlay, IsFormatted, IsNotMade, IsNotBegun, KeepsThroughout, StopsOnlyOpening}
use Rattle.heap_program.specs.Limits.{KeepsLimits}
use Rattle.heap_program.specs.Play.{lines_text, WroteFront, MadeAll}
use Rattle.heap_program.specs.Stored.{IsStored, stored_core, stored_calls}
use Rattle.thread_program.specs.Written.{WritesAll}

-- The disk failed or stopped in one of these events, as its reply says. Those after it were answered `failed`: other workers were still sending them.
pub record IsCutAmong (c : Core) (made : List Event) (d : Core) : Type 0 where
  pub before : List Event
  pub event : Event
  pub behind : List Event
  pub parts : made ≡ before ++ event ∷ behind
  pub reply : Reply
  pub cut : IsCutShort (after_events c before) event reply
  pub reached : d ≡ after_events (with_entry (after_events c before) event reply) behind

-- The events that end a run, or the first of these, if each worker has sent all and the disk has done all of that; and otherwise none.
abbrev pub AreLast : Core → List Event → Core → List Event → Result (Unit {0}) AllocError → Type 0
AreLast c sent between last end = (last ≡ []) ⊎ (IsOk end × MadeAll c sent between × ((unmade : List Event) × (ending between ≡ last ++ unmade)))

-- The workers of a script sent events to a heap that was opened as the core c: each those of its own lines, in their order, with the answers that the
-- history has at their places, and no place is left over. After them come none, or those that end a run.
pub record MakesTogether (tries : ℕ) (lines : List Line) (c : Core) (made : List Event) (d : Core) (result : Status) : Type 0 where
  pub sent : List Event
  pub last : List Event
  pub parts : made ≡ sent ++ last
  pub between : Core
  pub run : IsRun c sent between
  pub rest : IsRun between last d
  -- whether each worker has sent all; else they have begun, since one of them ran out of memory, or the heap was not opened
  pub workers_end : Result (Unit {0}) AllocError
  pub worked : IsWorked tries lines (length c.history) between.history workers_end
  pub refused : IsErr workers_end → (result ≡ status.NoMemory) ⊎ ((result ≡ status.DiskFault) × (made ≡ []))
  pub last_are : AreLast c sent between last workers_end
  -- in a run that is done each worker has sent all, the events that end a run followed, and the disk did all that it was asked
  pub done : result ≡ status.Done → IsOk workers_end × (last ≡ ending between) × MadeAll c made d
  -- if output is refused the last of these was made, unless the disk had failed or stopped
  pub behind : result ≡ status.WriteFault → MadeAll c made d → last ≡ ending between
  -- the disk did all that it was asked, or it failed or stopped in one event
  pub outcome : MadeAll c made d ⊎ IsCutAmong c made d

-- the events in which the disk was asked: none after the one in which it failed or stopped
abbrev pub events_asked : {c d : Core} {made : List Event} → MadeAll c made d ⊎ IsCutAmong c made d → List Event
events_asked {made = made} (inl all) = made
events_asked (inr cut) = cut.before ++ cut.event ∷ []

-- The workers of a script sent its events to a heap that was opened as the core c, and what was written is of the one history that they made.
pub record RunsByWorkers (tries : ℕ) (lines : List Line) (c : Core) (result : Status) (told : Bool) (before after : List ℕ) : Type 0 where
  pub made : List Event
  pub sessions : AllByRecursion IsOfSession made
  pub core : Core
  pub together : MakesTogether tries lines c made core result
  pub limits : KeepsLimits c made core
  -- the disk ended the run in one event, or in the opening
  pub failed : result ≡ status.DiskFault → ((account core.history).failed ≢ None) ⊎ (made ≡ [])
  -- a script of the events that a run has made, if it is done, asks a play for just these: what ends a run is among them
  pub again : result ≡ status.Done → all_events None c made ≡ made
  pub written : IsTrue told → WritesAll core result before after
  -- if a worker ran out of memory nothing is written
  pub nothing : IsErr together.workers_end → IsTrue told → after ≡ before
  -- if something is written the last of the events that end a run was made, unless the disk failed or stopped
  pub late : IsTrue told → MadeAll c made core → (after ≡ before) ⊎ (together.last ≡ ending together.between)
  pub end : IsEndOfPlay result

-- On any disk: a heap was opened with some graph, and workers sent their events to it. What was opened is `from` where that says. The disk failed or
-- stopped in an event only if its counts of that rose, unless memory ran out and nothing was written.
pub record PrintsTogether (from : StoredHeap → (ℕ → ℕ) → Type 0) (rose : Type 0) (tries : ℕ) (lines : List Line) (result : Status) (told : Bool) (before after : List ℕ) : Type 0 where
  pub first : Core
  pub opened : IsOpened first
  pub image : from opened.heap opened.gates
  pub runs : RunsByWorkers tries lines first result told before after
  pub caused : (account runs.core.history).failed ≢ None → rose ⊎ ((result ≡ status.NoMemory) × (IsTrue told → after ≡ before))

-- A run that is not done, whose output was not refused, and that wrote nothing.
abbrev pub EndsUnwritten : Status → Bool → List ℕ → List ℕ → Type 0
EndsUnwritten result told before after = (result ≢ status.Done) × (result ≢ status.WriteFault) × (IsTrue told → after ≡ before)

-- Nothing was written, or that was.
abbrev pub PrintsSomeTogether : (StoredHeap → (ℕ → ℕ) → Type 0) → Type 0 → ℕ → List Line → Status → Bool → List ℕ → List ℕ → Type 0
PrintsSomeTogether from rose tries lines result told before after = EndsUnwritten result told before after ⊎ PrintsTogether from rose tries lines result told before after

module _ {D : Type 0} {g : Ghosts D} where
  -- On a modelled disk: likewise, and each step says what it left on the disk.
  pub record StepsTogether (tries : ℕ) (lines : List Line) (s : Super) (c : Core) (old new : Heap D g) (result : Status) (told : Bool) (before after : List ℕ) : Type 0 where
    pub runs : RunsByWorkers tries lines c result told before after
    pub steps : AreSteps (HeapStep g) c (heap_disk old) runs.made runs.core (heap_disk new)
    pub heap : IsHeap s runs.core new
    -- none of them calls the disk after the one in which it failed or stopped
    pub most : g.passed (heap_disk new) ≤ counted (total_calls c (events_asked runs.together.outcome)) (g.passed (heap_disk old))

module _ {D : Type 0} (g : Ghosts D) where
  -- Workers sent events on a disk whose heap was opened as the core c, with `at_opening` calls at the opening: what is said of the disk in a play
  -- without a stop is said of it in the one history that they made.
  pub record IsPlayedTogether (tries : ℕ) (lines : List Line) (at_opening : ℕ) (c : Core) (start final : D) (result : Status) (told : Bool) (before after : List ℕ) : Type 0 where
    pub runs : RunsByWorkers tries lines c result told before after
    pub disk : KeepsThroughout g None at_opening c runs.made runs.core start final
    -- nothing comes after the last event
    pub still : final ≡ disk.stopped
    -- each event makes the calls that it is said to make, even after a failure
    pub steps : AreSteps (HeapStep g) c disk.opened runs.made runs.core final
    -- a run that made no event was not stopped by its disk in one
    pub no_first_stop : runs.made ≡ [] → StopsOnlyOpening g at_opening start final
    -- without a fault the disk did all that it was asked
    pub exact : Unharmed g start final → MadeAll c runs.made runs.core
    -- the disk has counted the writes and syncs of the opening and of these events, or no more than those up to the one in which it failed or stopped
    pub counts : ℕ
    pub opens : CountsOpening at_opening result runs.made counts
    pub calls : Unharmed g start final → g.passed final ≡ counted (counts + total_calls c runs.made) (g.passed start)
    pub most : g.passed final ≤ counted (at_opening + total_calls c (events_asked runs.together.outcome)) (g.passed start)
    pub replies : replies_of_commits runs.core.history ≡ serial_replies runs.core.g0 (commits runs.core.history)
    -- all that was acknowledged, or forced by an event that was not cut short, is sealed
    pub least : lasting runs.core ≤ length (sealed runs.core.history)
    -- a run that is done leaves nothing unsynced, and so does each run that the disk did not end, unless it failed in one of the events
    pub durable : result ≡ status.Done → Only (g.bytes final) (g.may_leave final)
    pub settled : result ≢ status.DiskFault → (account runs.core.history).failed ≡ None → Only (g.bytes final) (g.may_leave final)

  -- The workers of a script sent events on a disk whose heap was opened as the core c.
  pub record PlaysTogether (tries : ℕ) (is_script : List Line → Type 0) (at_opening : ℕ) (c : Core) (start final : D) (result : Status) (told : Bool) (before after : List ℕ) : Type 0 where
    pub lines : List Line
    pub script : is_script lines
    pub played : IsPlayedTogether tries lines at_opening c start final result told before after

  -- A heap was made, and the workers of a script sent events to it.
  pub record PlaysTogetherOnNew (pages tries : ℕ) (is_script : List Line → Type 0) (old new : D) (result : Status) (told : Bool) (before after : List ℕ) : Type 0 where
    pub made : D
    pub format : IsFormatted g (made_super pages) old made
    pub plays : PlaysTogether tries is_script 0 (made_core pages (g.bytes made)) made new result told before after

  -- Either a heap was made and a script was played on it by its workers, or none was made; or it was played on the existing heap, for each graph that
  -- stands in it, or that run did not begin.
  abbrev pub RunsTogether : Option ℕ → ℕ → (List Line → Type 0) → D → D → Status → Bool → List ℕ → List ℕ → Type 0
  RunsTogether (Some pages) tries is_script old new result told before after =
      IsNotMade g (made_super pages) old new result told before after ⊎ PlaysTogetherOnNew pages tries is_script old new result told before after
  RunsTogether None tries is_script old new result told before after =
      IsNotBegun g old new result told before after
      ⊎ ((stored : IsStored (g.bytes old)) → PlaysTogether tries is_script (stored_calls stored) (stored_core stored) old new result told before after)

  -- In short: at each moment a crash left what had been acknowledged or forced by then, and what is printed is the graph of these commits.
  pub record IsSafeTogether (tries : ℕ) (is_script : List Line → Type 0) (at_opening : ℕ) (c : Core) (start final : D) (result : Status) (told : Bool) (before after : List ℕ) : Type 0 where
    pub script : List Line
    pub read : is_script script
    pub made : List Event
    pub core : Core
    pub together : MakesTogether tries script c made core result
    -- At each moment an image is that of the first k commits.
    pub each : LeavesOnly g.moment g.left_since start final (HasAtLeast core (acknowledged c.history))
    -- The events were made one after another, on a disk that had let through the calls of the opening or fewer, and what each of them
    -- acknowledged or forced lasts.
    pub opened : D
    pub few : g.passed opened ≤ counted at_opening (g.passed start)
    pub stopped : D
    pub steps : AreSteps (LastingStep g None core start final) c opened made core stopped
    -- Each commit had the replies that it has when the commits are run one after another.
    pub replies : replies_of_commits core.history ≡ serial_replies core.g0 (commits core.history)
    -- Nothing is printed but a prefix of all lines and of the graph of the sealed transactions.
    pub front : IsTrue told → WroteFront before (lines_text core.history ++ graph_text (serial core.g0 (sealed core.history))) after
    -- Of a run that is done all of it is, all that lasts is in that graph, and each image that a crash then leaves stands for it.
    pub printed : result ≡ status.Done → IsTrue told → (lasting core ≤ length (sealed core.history)) × (after ≡ before ++ (lines_text core.history ++ graph_text (serial core.g0 (sealed core.history))))
        × ((image : List ℕ) → g.may_leave final image → StandsFor (serial core.g0 (sealed core.history)) (core.before + length (sealed core.history)) image)

  -- Either no heap was made, or it is crash safe from then on; or the existing heap is crash safe, or the run did not begin.
  abbrev pub RunsTogetherSafely : Option ℕ → ℕ → (List Line → Type 0) → D → D → Status → Bool → List ℕ → List ℕ → Type 0
  RunsTogetherSafely (Some pages) tries is_script old new result told before after =
      IsNotMade g (made_super pages) old new result told before after
      ⊎ ((made : D) × IsFormatted g (made_super pages) old made × IsSafeTogether tries is_script 0 (made_core pages (g.bytes made)) made new result told before after)
  RunsTogetherSafely None tries is_script old new result told before after =
      IsNotBegun g old new result told before after
      ⊎ ((stored : IsStored (g.bytes old)) → IsSafeTogether tries is_script (stored_calls stored) (stored_core stored) old new result told before after)
