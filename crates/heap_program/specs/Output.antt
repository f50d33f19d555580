-- What is written of a text, and of a heap that is opened again.
use Rattle.std.specs.Prelude.{◌≡◌, ◌≢◌, ◌⊎◌, ℕ, ◌-◌, ◌≤◌, min, List, [], ◌++◌, length, take, Bool, IsTrue, Option, None, Some, Result, Ok, Err}
use Rattle.counts.specs.Count.{greatest}
use Rattle.disk_model.specs.Disk.{Only}
use Rattle.graph_model.specs.Graph.{Graph}
use Rattle.graph_model.specs.History.{commits}
use Rattle.graph_model.specs.Transaction.{serial}
use Rattle.heap_program.specs.declared.output.WriteError.{WriteError}
use Rattle.heap_program.specs.declared.play.Halt.{Halt}
use Rattle.heap_program.specs.declared.play.Halt.TheVariants as halt
use Rattle.heap_program.specs.declared.status.Status.{Status}
use Rattle.heap_program.specs.declared.status.Status.TheVariants.{Done, DiskFault}
use Rattle.heap_model.specs.Core.{Core}
use Rattle.heap_model.specs.CoreCrash.{StandsForFirst}
use Rattle.heap_program.specs.Headline.{lasting, IsEndOfPlay, IsOfDisk, recovered_line, graph_text}
use Rattle.heap_program.specs.Play.{WroteFront}
use Rattle.heap_program.specs.StatusOf.{write_status, halt_status}

-- how many of the commits that a log holds came since it held those before; none if no event was made
abbrev pub commits_since : Option ℕ → ℕ → ℕ
commits_since None now = 0
commits_since (Some before) now = now - before

-- What is said of the commits before a core's opening, up to the limit of 64 bits. If nothing is said, no event was made.
abbrev pub IsBefore : Option ℕ → Core → Type 0
IsBefore None c = c.history ≡ []
IsBefore (Some before) c = before ≡ min c.before greatest

-- All of a text was written, or a prefix of it if that ended in an error.
abbrev pub WroteText : Result (Unit {0}) WriteError → List ℕ → List ℕ → List ℕ → Type 0
WroteText (Ok done) before text after = after ≡ before ++ text
WroteText (Err e) before text after = WroteFront before text after

-- how a run ends that has written its output, or could not
abbrev pub status_after : Result (Unit {0}) WriteError → Status
status_after (Ok done) = Done
status_after (Err e) = write_status e

-- the status of a run that is to stop, if it ends before the disk is restarted
abbrev pub early_end : Result (Unit {0}) Halt → Option Status
early_end (Ok done) = None
early_end (Err halt.Stopped) = None
early_end (Err other) = Some (halt_status other)

-- The heap was opened again as a core's first k commits, and their number and their graph were written, or a prefix of that.
pub record WroteRecovered (c : Core) (k : ℕ) (opens : Type 0) (result : Status) (told : Bool) (before after : List ℕ) : Type 0 where
  pub opened : opens
  pub sound : ¬ IsOfDisk result
  pub written : IsTrue told → WroteFront before (recovered_line k ++ graph_text (serial c.g0 (take k (commits c.history)))) after
  pub whole : IsTrue told → result ≡ Done → after ≡ before ++ (recovered_line k ++ graph_text (serial c.g0 (take k (commits c.history))))

-- It was not opened, and nothing was written.
pub record WroteNothing (fails : Type 0) (result : Status) (told : Bool) (before after : List ℕ) : Type 0 where
  pub failed : fails
  pub early : result ≢ Done
  pub nothing : IsTrue told → after ≡ before

-- A heap was to be opened again on a disk that keeps a core's first k commits, and what came back was written. A crash still leaves them, and unless
-- the disk failed nothing is unsynced.
pub record Recovers (c : Core) (k : ℕ) (opens fails : Type 0) (bytes : List ℕ) (may_leave : List ℕ → Type 0) (result : Status) (told : Bool) (before after : List ℕ) : Type 0 where
  pub end : IsEndOfPlay result
  pub least : lasting c ≤ k
  pub most : k ≤ length (commits c.history)
  pub kept : (image : List ℕ) → may_leave image → StandsForFirst c k image
  pub settled : result ≢ DiskFault → Only bytes may_leave
  pub found : WroteRecovered c k opens result told before after ⊎ WroteNothing fails result told before after

-- How many commits came back and a graph were written, or a prefix of that.
pub record WroteGraph (k : ℕ) (g : Graph) (result : Status) (before after : List ℕ) : Type 0 where
  pub sound : ¬ IsOfDisk result
  pub front : WroteFront before (recovered_line k ++ graph_text g) after
  pub whole : result ≡ Done → after ≡ before ++ (recovered_line k ++ graph_text g)

-- On any disk: a heap was opened again and some number and graph were written, or nothing was.
abbrev pub WroteAgain : Status → List ℕ → List ℕ → Type 0
WroteAgain result before after = ((result ≢ Done) × (after ≡ before)) ⊎ ((k : ℕ) × (g : Graph) × WroteGraph k g result before after)
