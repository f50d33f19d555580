-- What a run of the program promises.
use Rattle.std.specs.Prelude.{◌≡◌, ◌≢◌, ◌⊎◌, ℕ, ◌+◌, ◌-◌, ◌<◌, ◌≤◌, min, max, List, [], ◌∷◌, ◌++◌, length, take, codes, Bool, true, IsTrue, Option, None, Some, Err}
use Rattle.std.specs.Fmt.{decimal}
use Rattle.counts.specs.Count.{raised, counted}
use Rattle.disk_model.specs.declared.disk.Disk.{Ghosts}
use Rattle.disk_model.specs.declared.disk.DiskError.{DiskError}
use Rattle.disk_model.specs.Disk.{SameOutside, Only, HasCause}
use Rattle.disk_model.specs.Moments.{LeavesOnly}
use Rattle.gate_slot.specs.Passing.{Passes}
use Rattle.graph_model.specs.declared.event.Event.{Event}
use Rattle.graph_model.specs.declared.reply.Entry.{Entry}
use Rattle.graph_model.specs.declared.reply.Refusal.TheVariants.{DiskFault, Stopped}
use Rattle.graph_model.specs.declared.reply.Reply.{Reply}
use Rattle.graph_model.specs.declared.reply.Reply.TheVariants.{Refused}
use Rattle.graph_model.specs.Graph.{Graph, new_graph}
use Rattle.graph_model.specs.Transaction.{serial, serial_replies}
use Rattle.graph_model.specs.History.{sealed, commits, acknowledged}
use Rattle.graph_model.specs.Canon.{canon}
use Rattle.graph_model.specs.Text.{canon_text}
use Rattle.image_plan.specs.declared.superblock.Super.{Super}
use Rattle.image_plan.specs.Plan.{image_size}
use Rattle.heap_core.specs.Format.{IsEmptyHeap, IsFormatting, format_calls}
use Rattle.heap_core.specs.Refinement.{SameBehind}
use Rattle.heap_model.specs.Core.{Core, commits_on_disk, with_entry, IsRun}
use Rattle.heap_model.specs.CoreCrash.{StandsForFirst, IsCommitPrefix}
use Rattle.heap_model.specs.NewHeap.{new_heap, root_place}
use Rattle.commit_order.specs.Heard.{replies_of_commits}
use Rattle.heap_model.specs.CoreRuns.{after_events, total_calls, StopsAt}
use Rattle.heap_model.specs.Ending.{all_events}
use Rattle.graph_words.specs.Places.{Places}
use Rattle.page_store.specs.Gates.{open_gates}
use Rattle.heap_model.specs.Image.{StoredHeap, IsShapedLog, IsShaped, IsLegal}
use Rattle.heap_model.specs.Opening.{opened, opening_calls, IsFound}
use Rattle.script_text.specs.declared.line.Line.{Line}
use Rattle.script_text.specs.Line.{events}
use Rattle.heap_program.specs.Causes.{DiskRose, CountsStay, Unharmed, IsInputError}
use Rattle.command_words.specs.declared.commands.Stop.{Stop}
use Rattle.heap_program.specs.declared.status.Status.{Status}
use Rattle.heap_program.specs.declared.status.Status.TheVariants as status
use Rattle.heap_program.specs.Play.{lines_text, WroteFront, WroteLines, MadeAll, IsCutBy}
use Rattle.heap_core.specs.Steps.{AreSteps}
use Rattle.heap_program.specs.Limits.{KeepsLimits}
use Rattle.heap_program.specs.Steps.{Step}
use Rattle.heap_program.specs.Stored.{IsStored, stored_core, stored_calls}
use Rattle.heap_program.specs.declared.playing.TheConstants.{LOG_BYTES}

-- A claim of a modelled disk on which nothing is unsynced.
abbrev pub OfTold : Bool → List ℕ → (List ℕ → Type 0) → Type 0 → Type 0
OfTold tells bytes may_leave claim = IsTrue tells → Only bytes may_leave → claim

-- how many commits since its opening last: those that were acknowledged, or that the batches of events that were not cut short hold, even
-- if no reply has said so
abbrev pub lasting : Core → ℕ
lasting c = max (acknowledged c.history) (commits_on_disk c - c.before)

-- the superblock of the heap that a run makes, with that many pages
abbrev pub made_super : ℕ → Super
made_super pages = record { pages = pages; log_bytes = LOG_BYTES; first = 1 }

-- that heap, when it has been opened on the image that was made, with the gates of its frames
abbrev pub made_core : ℕ → List ℕ → Core
made_core pages image = opened (new_heap (made_super pages)) (open_gates LOG_BYTES image) true root_place new_graph

-- what is printed of a graph
abbrev pub graph_text : Graph → List ℕ
graph_text g = canon_text (canon g)

-- the line of a recovery
abbrev pub recovered_line : ℕ → List ℕ
recovered_line k = codes "recovered " ++ decimal k ++ 10 ∷ []

-- what is printed after the lines of a history: how many commits came back if the disk was to stop, and a graph
abbrev pub end_text : Option ℕ → ℕ → Graph → List ℕ
end_text None k g = graph_text g
end_text (Some n) k g = recovered_line k ++ graph_text g

-- The statuses that the disk and its image give.
abbrev pub IsOfDisk : Status → Type 0
IsOfDisk status.DiskFault = Unit {0}
IsOfDisk status.NotHeap = Unit {0}
IsOfDisk (status.Damaged at) = Unit {0}
IsOfDisk s = ⊥

-- The output of a run was written: all of it if the run is done, and otherwise a prefix. All lines of the history are in it but
-- perhaps the last one; if the disk or its image ended the run, all of them and nothing else.
pub record Writes (result : Status) (history : List Entry) (text before after : List ℕ) : Type 0 where
  pub front : WroteFront before (lines_text history ++ text) after
  pub lines : WroteLines before history after
  pub fault : IsOfDisk result → after ≡ before ++ lines_text history
  pub whole : result ≡ status.Done → after ≡ before ++ (lines_text history ++ text)

-- after how many calls the disk stops first
abbrev pub stop_after : Option Stop → Option ℕ
stop_after None = None
stop_after (Some stop) = Some stop.after

-- how many of these calls a disk lets through that stops after some, or never
abbrev pub let_through : Option ℕ → ℕ → ℕ
let_through None calls = calls
let_through (Some n) calls = min n calls

-- A run that is done has made all events, or the disk was to stop and did.
abbrev pub HasMade : Option ℕ → Core → List Event → List Event → Core → Type 0
HasMade None c made behind d = (behind ≡ []) × MadeAll c made d
HasMade (Some n) c made behind d = ((behind ≡ []) × MadeAll c made d) ⊎ IsCutBy (Refused Stopped) c made d

-- A run that the disk or its image ended: the disk in the last event that was made; or either, if a stop was asked, in an opening after all
-- events, after the one that was stopped, or before the first.
abbrev pub EndsByDisk : Option ℕ → Status → Core → List Event → List Event → Core → Type 0
EndsByDisk None result c made behind d = (result ≡ status.DiskFault) × (IsCutBy (Refused DiskFault) c made d ⊎ IsCutBy (Refused Stopped) c made d)
EndsByDisk (Some n) result c made behind d = ((result ≡ status.DiskFault) × IsCutBy (Refused DiskFault) c made d) ⊎ HasMade (Some n) c made behind d ⊎ (made ≡ [])

-- A run ended at its last event: on the disk as the event left it, with no more than lines written, and not with status 0.
pub record EndsThere {D : Type 0} (stopped final : D) (result : Status) (only_lines : Type 0) : Type 0 where
  pub same : final ≡ stopped
  pub lines : only_lines
  pub early : result ≢ status.Done

-- The disk stopped in the last of these events, and that is the one with more calls than were left of n.
pub record StopsLast (n : ℕ) (c : Core) (made : List Event) (d : Core) : Type 0 where
  pub at : StopsAt c n made
  pub last : at.behind ≡ []
  pub reached : d ≡ with_entry (after_events c at.before) at.event (Refused Stopped)

-- The disk stopped in the opening, which makes `at_opening` calls: no event was made.
abbrev pub StopsOpening : Option ℕ → ℕ → List Event → Type 0
StopsOpening None at_opening made = ⊥
StopsOpening (Some n) at_opening made = (n < at_opening) × (made ≡ [])

-- If the disk does what it is asked until it is to stop, the place at which it stops is exact: none, one of the events, or the opening, which
-- makes `at_opening` calls itself.
abbrev pub IsExact : Option ℕ → ℕ → Core → List Event → Core → Type 0
IsExact None at_opening c made d = MadeAll c made d
IsExact (Some n) at_opening c made d =
    (MadeAll c made d × (at_opening + total_calls c made ≤ n)) ⊎ ((at_opening ≤ n) × StopsLast (n - at_opening) c made d) ⊎ StopsOpening (Some n) at_opening made

-- If the disk is to stop, an event is answered `stopped` only if it has more calls than were left, even on a disk that fails or stops by itself:
-- no answer of the disk is handed on as that.
abbrev pub StopsInPlace : Option ℕ → ℕ → Core → List Event → Core → Type 0
StopsInPlace None at_opening c made d = Unit {0}
StopsInPlace (Some n) at_opening c made d = IsCutBy (Refused Stopped) c made d → (at_opening ≤ n) × StopsLast (n - at_opening) c made d

-- A core that is opened on a stored heap with a shaped log, in frames of which this many gates are open, with a graph that stands in it.
pub record IsOpened (c : Core) : Type 0 where
  pub heap : StoredHeap
  pub gates : ℕ → ℕ
  pub shaped : IsShapedLog heap
  pub born : Bool
  pub places : Places
  pub graph : Graph
  pub found : IsFound heap shaped born places graph
  pub is : c ≡ opened heap gates born places graph

-- On a modelled disk they are the heap and the gates of that image.
abbrev pub IsOfImage : Bool → List ℕ → StoredHeap → (ℕ → ℕ) → Type 0
IsOfImage tells image stored gates = IsTrue tells → IsShaped stored image × (gates ≡ open_gates stored.super.log_bytes image)

-- So are they if no heap was to be made first.
abbrev pub IsOfOwnImage : Option ℕ → Bool → List ℕ → StoredHeap → (ℕ → ℕ) → Type 0
IsOfOwnImage fresh tells image stored gates = fresh ≡ None → IsOfImage tells image stored gates

-- On any disk: a heap was opened with some graph, the events that were made are a run of that core, and what was written is a prefix
-- of the lines of its history, of how many commits came back if a stop was asked, and of a graph. Of a run that is done it is
-- all of that; and without a stop the graph is the core's. What was opened is `from` where that says.
pub record PrintsRun (from : StoredHeap → (ℕ → ℕ) → Type 0) (stop : Option ℕ) (lines : List Line) (result : Status) (before after : List ℕ) : Type 0 where
  pub first : Core
  pub opened : IsOpened first
  pub made : List Event
  -- an opening that a stop cut short opened nothing
  pub image : ((stop ≢ None) × (made ≡ [])) ⊎ from opened.heap opened.gates
  pub behind : List Event
  pub parts : all_events stop first (events lines) ≡ made ++ behind
  pub core : Core
  pub run : IsRun first made core
  pub limits : KeepsLimits first made core
  -- no event follows one that the disk cut short
  pub last : MadeAll first made core ⊎ ((reply : Reply) × IsCutBy reply first made core)
  -- all events were made, or it stopped in one of them or in the opening
  pub done : result ≡ status.Done → HasMade stop first made behind core ⊎ ((stop ≢ None) × (made ≡ []))
  pub failed : IsOfDisk result → EndsByDisk stop result first made behind core
  -- a run whose last event was answered `diskfault` ends there: it is not done, and no more than lines were written
  pub faulted : IsCutBy (Refused DiskFault) first made core → (result ≢ status.Done) × WroteFront before (lines_text core.history) after
  pub count : ℕ
  pub graph : Graph
  pub own : stop ≡ None → graph ≡ serial core.g0 (sealed core.history)
  pub written : Writes result core.history (end_text stop count graph) before after

-- A run that isn't done wrote nothing, or it wrote that.
abbrev pub PrintsSome : (StoredHeap → (ℕ → ℕ) → Type 0) → Option ℕ → List Line → Status → List ℕ → List ℕ → Type 0
PrintsSome from stop lines result before after = ((result ≢ status.Done) × (after ≡ before)) ⊎ PrintsRun from stop lines result before after

-- The statuses with which a play ends.
abbrev pub IsEndOfPlay : Status → Type 0
IsEndOfPlay status.Done = Unit {0}
IsEndOfPlay status.NoMemory = Unit {0}
IsEndOfPlay status.WriteFault = Unit {0}
IsEndOfPlay status.DiskFault = Unit {0}
IsEndOfPlay s = ⊥

-- Of the events that were asked of a core these were made, and led to this one. The opening makes `at_opening` calls before.
pub record MakesEvents (stop : Option ℕ) (at_opening : ℕ) (c : Core) (events : List Event) (result : Status) : Type 0 where
  pub made : List Event
  pub behind : List Event
  pub parts : events ≡ made ++ behind
  pub core : Core
  pub last : MadeAll c made core ⊎ ((reply : Reply) × IsCutBy reply c made core)
  pub limits : KeepsLimits c made core
  pub done : result ≡ status.Done → HasMade stop c made behind core ⊎ StopsOpening stop at_opening made
  pub in_place : StopsInPlace stop at_opening c made core

-- The calls of an opening that count: all that it makes, or none if memory ran out in it.
abbrev pub CountsOpening : ℕ → Status → List Event → ℕ → Type 0
CountsOpening at_opening result made counts = (counts ≡ at_opening) ⊎ ((result ≡ status.NoMemory) × (made ≡ []) × (counts ≡ 0))

module _ {D : Type 0} (g : Ghosts D) where
  -- At each moment a crash left a commit prefix: while the heap was opened as the core c, in each step, and from then on until the
  -- end, also while it was opened again. It always had all that had been acknowledged or forced. The opening makes `at_opening` calls, unless it is cut short.
  pub record KeepsThroughout (stop : Option ℕ) (at_opening : ℕ) (c : Core) (made : List Event) (d : Core) (start final : D) : Type 0 where
    pub opened : D
    pub opening : LeavesOnly g.moment g.left_since start opened (IsCommitPrefix c)
    pub here : (image : List ℕ) → g.may_leave opened image → IsCommitPrefix c image
    pub passed : Unharmed g start opened → made ≢ [] → g.passed opened ≡ counted at_opening (g.passed start)
    pub few : g.passed opened ≤ counted at_opening (g.passed start)
    pub restarts : g.restarts opened ≡ g.restarts start
    -- no call of an opening after which events were made failed or found the disk stopped
    pub still : made ≢ [] → CountsStay g start opened
    pub stopped : D
    pub steps : AreSteps (Step g stop start) c opened made d stopped
    pub rest : LeavesOnly g.moment g.left_since stopped final (IsCommitPrefix d)
    pub kept : (image : List ℕ) → g.may_leave final image → IsCommitPrefix d image
    -- and each byte past the plan as it was at the start, at each moment of all that
    pub outside : LeavesOnly g.moment g.left_since start final (SameBehind c (g.bytes start))

  -- The disk was restarted, as one of the images that a crash could leave: no moment of that left another.
  pub record Restarts (old new : D) : Type 0 where
    pub left : g.may_leave old (g.bytes new)
    pub only : Only (g.bytes new) (g.may_leave new)
    pub moments : LeavesOnly g.moment g.left_since old new (g.may_leave old)
    pub restarts : g.restarts new ≡ raised (g.restarts old)
    pub passed : g.passed new ≡ g.passed old

  -- A heap was to be opened on a disk that had just been restarted and reads as an image of the core's first k commits: whatever the outcome,
  -- at each moment of it a crash left an image of the same k commits, and so does one now.
  pub record KeepsFirst (c : Core) (k : ℕ) (old new : D) : Type 0 where
    pub first : StandsForFirst c k (g.bytes old)
    pub moments : LeavesOnly g.moment g.left_since old new (StandsForFirst c k)
    -- and each byte past the plan as it was
    pub outside : LeavesOnly g.moment g.left_since old new (SameBehind c (g.bytes old))
    pub still : (image : List ℕ) → g.may_leave new image → StandsForFirst c k image
    pub restarts : g.restarts new ≡ g.restarts old

  -- the writes and syncs of the opening of such an image: four if it holds writes of a transaction that has not ended, otherwise none
  abbrev pub calls_to_open : {c : Core} {k : ℕ} {image : List ℕ} → StandsForFirst c k image → ℕ
  calls_to_open first = opening_calls first.stands.stored

  -- The heap was opened, with all writes and syncs of an opening.
  pub record Reopens (c : Core) (k : ℕ) (old new : D) : Type 0 where
    pub keeps : KeepsFirst c k old new
    pub passed : g.passed new ≡ counted (calls_to_open keeps.first) (g.passed old)
    -- nothing is unsynced then
    pub only : Only (g.bytes new) (g.may_leave new)

  -- It was not opened, since memory ran out or the disk failed: with no more writes and syncs than those of an opening, and none without memory.
  pub record FailsToOpen (c : Core) (k : ℕ) (result : Status) (old new : D) : Type 0 where
    pub reason : (result ≡ status.NoMemory) ⊎ ((result ≡ status.DiskFault) × DiskRose (g.faults old) (g.stops old) (g.faults new) (g.stops new))
    pub keeps : KeepsFirst c k old new
    pub most : (calls : ℕ) × (calls ≤ calls_to_open keeps.first) × (g.passed new ≡ counted calls (g.passed old))
    pub none : result ≡ status.NoMemory → g.passed new ≡ g.passed old
    -- and then nothing is unsynced
    pub only : result ≡ status.NoMemory → Only (g.bytes new) (g.may_leave new)

  -- It was opened on a disk that stops after m writes and syncs, and its outcome was ignored. If the disk doesn't fail, it stopped exactly if
  -- an opening makes more than m: it let through the writes and syncs of an opening, or m of them if they are more.
  pub record IsCutOff (m : ℕ) (c : Core) (k : ℕ) (old new : D) : Type 0 where
    pub keeps : KeepsFirst c k old new
    pub passed : Unharmed g old new → g.passed new ≡ counted (min m (calls_to_open keeps.first)) (g.passed old)
    pub most : g.passed new ≤ counted (min m (calls_to_open keeps.first)) (g.passed old)

  -- What comes between the first restart of the disk and the last opening: nothing, or an opening that is cut off, and a second restart.
  abbrev pub IsCutBefore : Option ℕ → Core → ℕ → D → D → Type 0
  IsCutBefore None c k first last = last ≡ first
  IsCutBefore (Some m) c k first last = (cut : D) × IsCutOff m c k first cut × Restarts cut last

  -- The disk was restarted, and this is the outcome of the last opening after that.
  pub record StartsAgain (again : Option ℕ) (c : Core) (k : ℕ) (opening : D → D → Type 0) (stopped new : D) : Type 0 where
    pub first : D
    pub started : Restarts stopped first
    pub last : D
    pub cut : IsCutBefore again c k first last
    pub outcome : opening last new

  -- No heap was opened in the end: the disk was not restarted, or the last opening failed, or the one that was to be cut off ran out of memory.
  abbrev pub EndsUnopened : Option ℕ → Core → ℕ → D → D → Status → Type 0
  EndsUnopened None c k stopped new result = (new ≡ stopped) ⊎ StartsAgain None c k (FailsToOpen c k result) stopped new
  EndsUnopened (Some m) c k stopped new result =
      (new ≡ stopped) ⊎ StartsAgain (Some m) c k (FailsToOpen c k result) stopped new ⊎ ((result ≡ status.NoMemory) × StartsAgain None c k (FailsToOpen c k result) stopped new)

  -- What came after the last event: nothing, if no stop was asked. Otherwise the disk was restarted and the heap opened on it, and then the
  -- status is not the disk's, whatever the outcome of an opening that was cut off before; or no heap was opened, and only lines were written.
  abbrev pub IsFollowed : Option Stop → Core → ℕ → D → D → Status → Type 0 → Type 0
  IsFollowed None c k stopped new result only_lines = new ≡ stopped
  IsFollowed (Some stop) c k stopped new result only_lines =
      (StartsAgain stop.again c k (Reopens c k) stopped new × (¬ IsOfDisk result)) ⊎ (EndsUnopened stop.again c k stopped new result × (result ≢ status.Done) × only_lines)

  -- The lines of a core's history were printed, how many commits came back if a stop was asked, and their graph. All that was acknowledged, or
  -- forced by an event that was not cut short, is among them.
  pub record Prints (stop : Option Stop) (c : Core) (stopped final : D) (result : Status) (told : Bool) (before after : List ℕ) : Type 0 where
    pub count : ℕ
    pub least : lasting c ≤ count
    pub most : count ≤ length (commits c.history)
    pub all : stop ≡ None → count ≡ length (sealed c.history)
    pub behind : IsFollowed stop c count stopped final result (IsTrue told → WroteFront before (lines_text c.history) after)
    pub written : IsTrue told → Writes result c.history (end_text (stop_after stop) count (serial c.g0 (take count (commits c.history)))) before after

  -- A disk that had met no stop has met none, or its first came in the opening: then fewer writes and syncs have passed than the opening makes.
  abbrev pub StopsOnlyOpening : ℕ → D → D → Type 0
  StopsOnlyOpening at_opening start final = g.stops start ≡ 0 → (g.stops final ≡ 0) ⊎ ((calls : ℕ) × (calls < at_opening) × (g.passed final ≡ counted calls (g.passed start)))

  -- Events were played on a disk whose heap was opened as the core c, with `at_opening` calls at the opening.
  pub record IsPlayed (stop : Option Stop) (at_opening : ℕ) (c : Core) (events : List Event) (start final : D) (result : Status) (told : Bool) (before after : List ℕ) : Type 0 where
    pub run : MakesEvents (stop_after stop) at_opening c events result
    pub disk : KeepsThroughout (stop_after stop) at_opening c run.made run.core start final
    -- without a fault up to the last event it stopped just where it was to
    pub exact : Unharmed g start disk.stopped → IsExact (stop_after stop) at_opening c run.made run.core
    -- the disk after the last event has counted the writes and syncs of the opening and of these events, or no more than those
    pub counts : ℕ
    pub opens : CountsOpening at_opening result run.made counts
    pub calls : Unharmed g start disk.stopped → g.passed disk.stopped ≡ counted (let_through (stop_after stop) (counts + total_calls c run.made)) (g.passed start)
    pub most : g.passed disk.stopped ≤ counted (let_through (stop_after stop) (at_opening + total_calls c run.made)) (g.passed start)
    pub replies : replies_of_commits run.core.history ≡ serial_replies run.core.g0 (commits run.core.history)
    pub prints : Prints stop run.core disk.stopped final result told before after
    -- without a stop that was asked for, a run that made no event was not stopped by its disk in one: no line is left out for that
    pub no_first_stop : stop ≡ None → run.made ≡ [] → StopsOnlyOpening at_opening start final
    -- a run whose last event was answered `diskfault` ends there
    pub faulted : IsCutBy (Refused DiskFault) c run.made run.core → EndsThere disk.stopped final result (IsTrue told → WroteFront before (lines_text run.core.history) after)
    -- a run that is done leaves nothing unsynced
    pub durable : result ≡ status.Done → Only (g.bytes final) (g.may_leave final)
    -- and so does each that the disk did not end, unless its last event was cut short, and the disk is given back as that left it
    pub settled : result ≢ status.DiskFault → (final ≡ disk.stopped → (reply : Reply) → IsCutBy reply c run.made run.core → ⊥) → Only (g.bytes final) (g.may_leave final)
    pub end : IsEndOfPlay result

  -- An empty heap was made. Meanwhile a crash left no heap, the old image, or the new heap.
  pub record IsFormatted (s : Super) (old made : D) : Type 0 where
    pub moments : LeavesOnly g.moment g.left_since old made (IsFormatting s (g.bytes old))
    pub empty : IsLegal (new_heap s) (g.bytes made)
    -- a superblock with these numbers, and zeros up to the end of the plan
    pub zeros : IsEmptyHeap s (g.bytes made)
    -- each byte past the plan is as it was, and so it was at each moment
    pub kept : SameOutside 0 (image_size s.pages s.log_bytes) (g.bytes old) (g.bytes made)
    pub outside : LeavesOnly g.moment g.left_since old made (SameOutside 0 (image_size s.pages s.log_bytes) (g.bytes old))
    pub only : Only (g.bytes made) (g.may_leave made)
    pub passed : g.passed made ≡ counted (format_calls (image_size s.pages s.log_bytes) (g.bytes old)) (g.passed old)
    pub restarts : g.restarts made ≡ g.restarts old
    -- no call of it failed or found the disk stopped
    pub still : CountsStay g old made

  -- The disk failed or stopped in one of the writes and syncs that make the heap.
  pub record FailsFormat (s : Super) (old new : D) : Type 0 where
    pub error : DiskError
    pub cause : HasCause {T = Unit {0}} (g.faults old) (g.faults new) (g.stops old) (g.stops new) (Err error)
    pub passes : Passes (format_calls (image_size s.pages s.log_bytes) (g.bytes old)) (g.passed old) (g.passed new) (Err error)

  -- Why no heap was made: the disk failed at it, or the run ended before, and then the disk is as it was.
  abbrev pub IsUnmade : Super → D → D → Status → Type 0
  IsUnmade s old new status.DiskFault = FailsFormat s old new
  IsUnmade s old new status.NoMemory = new ≡ old
  IsUnmade s old new (status.Script line) = new ≡ old
  IsUnmade s old new status.ReadFault = new ≡ old
  IsUnmade s old new (status.TooSmall size need) = new ≡ old
  IsUnmade s old new result = ⊥

  -- No heap was made, and nothing was written. A crash left no heap, the old image, or the new heap, with the bytes past the plan as they were.
  pub record IsNotMade (s : Super) (old new : D) (result : Status) (told : Bool) (before after : List ℕ) : Type 0 where
    pub reason : IsUnmade s old new result
    pub nothing : IsTrue told → after ≡ before
    pub moments : LeavesOnly g.moment g.left_since old new (IsFormatting s (g.bytes old))
    pub outside : LeavesOnly g.moment g.left_since old new (SameOutside 0 (image_size s.pages s.log_bytes) (g.bytes old))
    pub restarts : g.restarts new ≡ g.restarts old

  -- A script was played on a disk whose heap was opened as the core c, with the events that end a run.
  pub record PlaysScript (stop : Option Stop) (is_script : List Line → Type 0) (at_opening : ℕ) (c : Core) (start final : D) (result : Status) (told : Bool) (before after : List ℕ) : Type 0 where
    pub lines : List Line
    pub script : is_script lines
    pub played : IsPlayed stop at_opening c (all_events (stop_after stop) c (events lines)) start final result told before after

  -- A heap was made, and a script was played on it. The opening of a new heap makes no call.
  pub record PlaysOnNew (pages : ℕ) (stop : Option Stop) (is_script : List Line → Type 0) (old new : D) (result : Status) (told : Bool) (before after : List ℕ) : Type 0 where
    pub made : D
    pub format : IsFormatted (made_super pages) old made
    pub plays : PlaysScript stop is_script 0 (made_core pages (g.bytes made)) made new result told before after

  -- The run ended before it did anything with the disk, and nothing was written.
  pub record IsNotBegun (old new : D) (result : Status) (told : Bool) (before after : List ℕ) : Type 0 where
    pub reason : IsInputError result
    pub same : new ≡ old
    pub nothing : IsTrue told → after ≡ before

  -- Either a heap was made and a script was played on it, or none was made; or a script was played on the existing heap, for each
  -- graph that stands in it, or that run did not begin.
  abbrev pub Runs : Option ℕ → Option Stop → (List Line → Type 0) → D → D → Status → Bool → List ℕ → List ℕ → Type 0
  Runs (Some pages) stop is_script old new result told before after =
      IsNotMade (made_super pages) old new result told before after ⊎ PlaysOnNew pages stop is_script old new result told before after
  Runs None stop is_script old new result told before after =
      IsNotBegun old new result told before after
      ⊎ ((stored : IsStored (g.bytes old)) → PlaysScript stop is_script (stored_calls stored) (stored_core stored) old new result told before after)

-- What a play can be made on: a disk that is large enough for a new heap, or one that holds a heap.
abbrev pub CanPlay : Option ℕ → ℕ → List ℕ → Type 0
CanPlay (Some pages) extent image = image_size pages LOG_BYTES ≤ extent
CanPlay None extent image = IsStored image

-- The statuses with which a run leaves the disk and the sink as they were.
abbrev pub IsUntouching : Status → Type 0
IsUntouching status.Usage = Unit {0}
IsUntouching (status.Script line) = Unit {0}
IsUntouching status.ReadFault = Unit {0}
IsUntouching (status.TooSmall size need) = Unit {0}
IsUntouching s = ⊥

-- The statuses that say nothing against the image.
abbrev pub BlamesNoImage : Status → Type 0
BlamesNoImage status.NotHeap = ⊥
BlamesNoImage (status.Damaged at) = ⊥
BlamesNoImage s = Unit {0}

-- A run ends so unless its words are no command or its script could not be read.
abbrev pub EndsUnread : Status → Status → Type 0
EndsUnread expected status.Usage = Unit {0}
EndsUnread expected status.ReadFault = Unit {0}
EndsUnread expected status.NoMemory = Unit {0}
EndsUnread expected result = result ≡ expected

-- A run ends so unless its script is bad or could not be read.
abbrev pub EndsUnmade : Status → Status → Type 0
EndsUnmade expected (status.Script line) = Unit {0}
EndsUnmade expected status.ReadFault = Unit {0}
EndsUnmade expected status.NoMemory = Unit {0}
EndsUnmade expected result = result ≡ expected

-- how often a run restarts a disk after its stop
abbrev pub starts_asked : Option ℕ → ℕ
starts_asked None = 1
starts_asked (Some m) = 2

-- how often a run does so, if the disk is to stop or not
abbrev pub restarts_asked : Option Stop → ℕ
restarts_asked None = 0
restarts_asked (Some stop) = starts_asked stop.again

-- The disk was restarted no more often than that, and exactly that often if the run is done.
pub record RestartsDisk (asked : ℕ) (result : Status) (before now : ℕ) : Type 0 where
  pub times : ℕ
  pub most : times ≤ asked
  pub all : result ≡ status.Done → times ≡ asked
  pub told : now ≡ counted times before
