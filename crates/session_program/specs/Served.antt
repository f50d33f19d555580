-- What a session promises of a modelled disk.
use Rattle.std.specs.Prelude.{◌≡◌, ◌≢◌, ◌⊎◌, ℕ, ◌+◌, ◌≤◌, List, [], ◌++◌, Bool, IsTrue, None, Result}
use Rattle.counts.specs.Count.{counted}
use Rattle.disk_model.specs.declared.disk.Disk.{Ghosts}
use Rattle.disk_model.specs.Disk.{Only}
use Rattle.graph_model.specs.declared.event.Event.{Event}
use Rattle.graph_model.specs.declared.reply.Reply.{Reply}
use Rattle.graph_model.specs.History.{commits}
use Rattle.graph_model.specs.Transaction.{serial_replies}
use Rattle.commit_order.specs.Heard.{replies_of_commits}
use Rattle.heap_core.specs.declared.heap.Heap.{Heap}
use Rattle.heap_core.specs.HeapState.{heap_disk}
use Rattle.heap_model.specs.Core.{Core}
use Rattle.heap_model.specs.CoreRuns.{total_calls}
use Rattle.heap_program.specs.declared.status.Status.{Status}
use Rattle.heap_program.specs.declared.status.Status.TheVariants as status
use Rattle.heap_program.specs.Causes.{Unharmed}
use Rattle.heap_program.specs.Headline.{KeepsThroughout, CountsOpening}
use Rattle.heap_program.specs.Limits.{KeepsLimits}
use Rattle.heap_program.specs.Play.{MadeAll, IsCutBy}
use Rattle.session_program.specs.declared.ending.Break.{Break}
use Rattle.session_program.specs.declared.parts.Next.{Next}
use Rattle.session_program.specs.Ending.{session_status, next_of}
use Rattle.session_program.specs.Lines.{asked}
use Rattle.session_program.specs.Session.{Serves, last_of}

module _ {D : Type 0} (g : Ghosts D) where
  -- No heap was opened: nothing was made or written.
  pub record NotServed (c : Core) (made : List Event) (core : Core) (by : Status) (told : Bool) (before after : List ℕ) : Type 0 where
    pub early : by ≢ status.Done
    pub none : made ≡ []
    pub same : core ≡ c
    pub nothing : IsTrue told → after ≡ before

  -- Lines were answered, and the events that were made are theirs, with those that were played last.
  pub record ServesEvents (tells : Bool) (left rest : List ℕ) (c : Core) (made : List Event) (core : Core) (final : D) (by : Status) (n : Next) (told : Bool) (before after : List ℕ) : Type 0 where
    pub heap : Heap D g
    pub disk : final ≡ heap_disk heap
    pub result : Result Next Break
    pub status : by ≡ session_status result
    pub next : n ≡ next_of result
    pub serves : Serves tells left rest c heap told before after result
    pub events : made ≡ asked serves.answered ++ (last_of tells left rest c heap told before after result serves).0
    pub reached : core ≡ (last_of tells left rest c heap told before after result serves).1

  -- A session with the existing heap, which was opened as the core c with `at_opening` calls. At each moment a crash left a commit prefix with
  -- all that had been acknowledged or forced; nothing was done to the disk but in an event.
  pub record IsServed (at_opening : ℕ) (tells : Bool) (left rest : List ℕ) (c : Core) (start final : D) (by : Status) (n : Next) (told : Bool) (before after : List ℕ) : Type 0 where
    pub made : List Event
    pub core : Core
    pub run : NotServed c made core by told before after ⊎ ServesEvents tells left rest c made core final by n told before after
    pub last : MadeAll c made core ⊎ ((reply : Reply) × IsCutBy reply c made core)
    pub limits : KeepsLimits c made core
    pub disk : KeepsThroughout g None at_opening c made core start final
    -- it is given back as the last event left it
    pub same : final ≡ disk.stopped
    -- without a fault of the disk all events were done
    pub exact : Unharmed g start final → MadeAll c made core
    -- it has counted the writes and syncs of the opening and of these events, or no more than those
    pub counts : ℕ
    pub opens : CountsOpening at_opening by made counts
    pub calls : Unharmed g start final → g.passed final ≡ counted (counts + total_calls c made) (g.passed start)
    pub most : g.passed final ≤ counted (at_opening + total_calls c made) (g.passed start)
    -- each commit had the replies that it has when the commits are run one after another
    pub replies : replies_of_commits core.history ≡ serial_replies core.g0 (commits core.history)
    -- a session that is done leaves nothing unsynced, nor does one that the disk did not end, unless its last event was cut short
    pub durable : by ≡ status.Done → Only (g.bytes final) (g.may_leave final)
    pub settled : by ≢ status.DiskFault → MadeAll c made core → Only (g.bytes final) (g.may_leave final)
