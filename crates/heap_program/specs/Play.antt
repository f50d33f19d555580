-- What a play makes of the events of a script.
use Rattle.std.specs.Prelude.{◌≡◌, ◌⊎◌, ℕ, ◌+◌, ◌<◌, ◌≤◌, List, [], ◌∷◌, ◌++◌, length, Bool, IsTrue, None, Result, Ok, Err}
use Rattle.std.specs.List.{flat_map}
use Rattle.counts.specs.Count.{counted}
use Rattle.disk_model.specs.declared.disk.Disk.{Ghosts}
use Rattle.disk_model.specs.Disk.{HasCause}
use Rattle.graph_model.specs.declared.event.Event.{Event}
use Rattle.graph_model.specs.declared.reply.Entry.{Entry}
use Rattle.graph_model.specs.declared.reply.Refusal.TheVariants.{DiskFault, Stopped}
use Rattle.graph_model.specs.declared.reply.Reply.{Reply}
use Rattle.graph_model.specs.declared.reply.Reply.TheVariants.{Refused}
use Rattle.graph_model.specs.History.{account}
use Rattle.graph_model.specs.Text.{line}
use Rattle.image_plan.specs.declared.superblock.Super.{Super}
use Rattle.heap_core.specs.declared.heap.Heap.{Heap}
use Rattle.heap_program.specs.declared.play.Halt.{Halt}
use Rattle.heap_program.specs.declared.play.Halt.TheVariants as halt
use Rattle.heap_core.specs.Causes.{reply_device}
use Rattle.heap_program.specs.Causes.{CountsStay}
use Rattle.heap_model.specs.Core.{Core, with_entry, IsCutShort, IsRun, calls}
use Rattle.heap_model.specs.CoreRuns.{after_events, total_calls}
use Rattle.core_laws.specs.Valid.{IsReached}
use Rattle.heap_core.specs.Refinement.{IsCore, IsHeap}
use Rattle.heap_core.specs.Steps.{HeapStep, AreSteps}

-- the lines of a history
abbrev pub lines_text : List Entry → List ℕ
lines_text history = flat_map line history

-- A core that steps have reached and whose disk has done what it was asked.
pub record IsRunning (c : Core) : Type 0 where
  pub reached : IsReached c
  pub unfailed : (account c.history).failed ≡ None

-- A prefix of a text was written.
abbrev pub WroteFront : List ℕ → List ℕ → List ℕ → Type 0
WroteFront before text after = (front : List ℕ) × (rest : List ℕ) × (text ≡ front ++ rest) × (after ≡ before ++ front)

-- The lines of all entries were written, but perhaps that of the last one.
abbrev pub WroteLines : List ℕ → List Entry → List ℕ → Type 0
WroteLines before history after = (whole : List Entry) × (last : List Entry) × (rest : List ℕ) × (history ≡ whole ++ last) × (length last ≤ 1) × (after ≡ (before ++ lines_text whole) ++ rest)

-- The lines of a history were written, or a prefix of them if the play ended for lack of memory or by the sink.
abbrev pub Wrote : Result (Unit {0}) Halt → List ℕ → List Entry → List ℕ → Type 0
Wrote (Err halt.NoMemory) before history after = WroteFront before (lines_text history) after × WroteLines before history after
Wrote (Err halt.WriteFault) before history after = WroteFront before (lines_text history) after × WroteLines before history after
Wrote result before history after = after ≡ before ++ lines_text history

-- how a play continues after a reply
abbrev pub ended_by : Reply → Result (Unit {0}) Halt
ended_by (Refused DiskFault) = Err halt.DiskFault
ended_by (Refused Stopped) = Err halt.Stopped
ended_by reply = Ok tt

-- The disk did what it was asked in all of these events.
abbrev pub MadeAll : Core → List Event → Core → Type 0
MadeAll c made d = d ≡ after_events c made

-- The disk stopped or failed in the last of these events, as the reply says.
pub record IsCutBy (reply : Reply) (c : Core) (made : List Event) (d : Core) : Type 0 where
  pub before : List Event
  pub event : Event
  pub parts : made ≡ before ++ event ∷ []
  pub cut : IsCutShort (after_events c before) event reply
  pub reached : d ≡ with_entry (after_events c before) event reply

-- Of the events that a play was asked it made these, and how it ended says how the last one was answered.
abbrev pub EndsAs : Core → List Event → List Event → Core → Result (Unit {0}) Halt → Type 0
EndsAs c made behind d (Ok done) = (behind ≡ []) × MadeAll c made d
EndsAs c made behind d (Err halt.Stopped) = IsCutBy (Refused Stopped) c made d
EndsAs c made behind d (Err halt.DiskFault) = IsCutBy (Refused DiskFault) c made d
EndsAs c made behind d (Err other) = MadeAll c made d ⊎ ((reply : Reply) × IsCutBy reply c made d)

module _ {D : Type 0} {g : Ghosts D} where
  -- On every disk: events were played from a core on, as a run of it, and their lines written to a sink, which may model what was
  -- written before and after.
  pub record PlaysCore (c : Core) (events : List Event) (new : Heap D g) (told : Bool) (before after : List ℕ) (result : Result (Unit {0}) Halt) : Type 0 where
    pub made : List Event
    pub behind : List Event
    pub parts : events ≡ made ++ behind
    pub core : Core
    pub run : IsRun c made core
    pub ends : EndsAs c made behind core result
    pub is : IsCore core new
    -- the entries that the history has beyond those before, whose lines were written
    pub written : IsTrue told → (heard : List Entry) × (core.history ≡ c.history ++ heard) × Wrote result before heard after

  -- All of these events were made, and the disk did what it was asked.
  pub record MakesAll (c : Core) (made : List Event) (d : Core) (old new : Heap D g) : Type 0 where
    pub reached : d ≡ after_events c made
    pub passes : g.passed new.disk ≡ counted (total_calls c made) (g.passed old.disk)
    pub still : CountsStay g old.disk new.disk

  -- In the last of these events the disk failed or stopped, as the reply says.
  pub record MakesShort (c : Core) (made : List Event) (d : Core) (old new : Heap D g) (reply : Reply) : Type 0 where
    pub before : List Event
    pub event : Event
    pub parts : made ≡ before ++ event ∷ []
    pub cut : IsCutShort (after_events c before) event reply
    pub reached : d ≡ with_entry (after_events c before) event reply
    -- it is answered so where the count of that rose in the play, and no other count did
    pub cause : HasCause (g.faults old.disk) (g.faults new.disk) (g.stops old.disk) (g.stops new.disk) (reply_device reply)
    -- where it stopped, fewer calls of that event passed than it makes
    pub passes : reply ≡ Refused Stopped → (k : ℕ) × (k < calls (after_events c before) event) × (g.passed new.disk ≡ counted (total_calls c before + k) (g.passed old.disk))
    -- and otherwise no more
    pub most : (k : ℕ) × (k ≤ calls (after_events c before) event) × (g.passed new.disk ≡ counted (total_calls c before + k) (g.passed old.disk))

  abbrev pub Makes : Core → List Event → Core → Heap D g → Heap D g → Type 0
  Makes c made d old new = MakesAll c made d old new ⊎ ((reply : Reply) × MakesShort c made d old new reply)

  -- How a play ended says what was made.
  abbrev pub Ends : Core → List Event → List Event → Core → Heap D g → Heap D g → Result (Unit {0}) Halt → Type 0
  Ends c made behind d old new (Ok done) = (behind ≡ []) × MakesAll c made d old new
  Ends c made behind d old new (Err halt.Stopped) = MakesShort c made d old new (Refused Stopped)
  Ends c made behind d old new (Err halt.DiskFault) = MakesShort c made d old new (Refused DiskFault)
  Ends c made behind d old new (Err other) = Makes c made d old new

  -- On a modelled disk: likewise, and each step says what it left on the disk.
  pub record Plays (s : Super) (c : Core) (events : List Event) (old new : Heap D g) (told : Bool) (before after : List ℕ) (result : Result (Unit {0}) Halt) : Type 0 where
    pub made : List Event
    pub behind : List Event
    pub parts : events ≡ made ++ behind
    pub core : Core
    pub steps : AreSteps (HeapStep g) c old.disk made core new.disk
    pub ends : Ends c made behind core old new result
    pub heap : IsHeap s core new
    -- the entries that the history has beyond those before, whose lines were written
    pub written : IsTrue told → (heard : List Entry) × (core.history ≡ c.history ++ heard) × Wrote result before heard after
