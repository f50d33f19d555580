-- What a run promises of crashes, in short: it follows from the headline.
use Rattle.std.specs.Prelude.{◌≡◌, ◌⊎◌, ℕ, ◌+◌, ◌≤◌, List, ◌++◌, length, take, Bool, IsTrue, Option, None, Some}
use Rattle.counts.specs.Count.{counted}
use Rattle.disk_model.specs.declared.disk.Disk.{Ghosts}
use Rattle.disk_model.specs.Moments.{LeavesOnly}
use Rattle.graph_model.specs.declared.event.Event.{Event}
use Rattle.graph_model.specs.History.{commits, acknowledged}
use Rattle.graph_model.specs.Transaction.{serial, serial_replies}
use Rattle.heap_model.specs.Core.{Core}
use Rattle.commit_order.specs.Heard.{replies_of_commits}
use Rattle.command_words.specs.declared.commands.Stop.{Stop}
use Rattle.heap_program.specs.declared.status.Status.{Status}
use Rattle.heap_program.specs.declared.status.Status.TheVariants as status
use Rattle.heap_program.specs.Headline.{lasting, made_super, made_core, end_text, stop_after, HasMade, StopsOpening, IsFormatted, IsNotMade, IsNotBegun}
use Rattle.heap_program.specs.Play.{lines_text, WroteFront, WroteLines}
use Rattle.heap_core.specs.Steps.{AreSteps}
use Rattle.heap_program.specs.Steps.{Step}
use Rattle.heap_program.specs.Stored.{IsStored, stored_core, stored_calls}
use Rattle.heap_model.specs.CoreCrash.{HasAtLeast}
use Rattle.heap_model.specs.Ending.{all_events}
use Rattle.heap_model.specs.Image.{StandsFor}
use Rattle.script_text.specs.declared.line.Line.{Line}
use Rattle.script_text.specs.Line.{events}

module _ {D : Type 0} (g : Ghosts D) where
  -- A step, from whose answer on until the run returned k is no less than what had been acknowledged or forced by then.
  pub record LastingStep (stop : Option ℕ) (last : Core) (start final : D) (c : Core) (before : D) (event : Event) (d : Core) (after : D) : Type 0 where
    pub made : Step g stop start c before event d after
    pub lasts : LeavesOnly g.moment g.left_since after final (HasAtLeast last (lasting d))

  -- A heap was opened as the core c on a disk, with `at_opening` calls at the opening, and events of a script were made.
  pub record IsCrashSafe (stop : Option ℕ) (is_script : List Line → Type 0) (at_opening : ℕ) (c : Core) (start final : D) (result : Status) (told : Bool) (before after : List ℕ) : Type 0 where
    pub script : List Line
    pub read : is_script script
    -- They are the first of those of the script and of those that end a run; all of them in a run that is done, unless the disk was to stop and did.
    pub made : List Event
    pub unmade : List Event
    pub asked : all_events stop c (events script) ≡ made ++ unmade
    pub core : Core
    pub all : result ≡ status.Done → HasMade stop c made unmade core ⊎ StopsOpening stop at_opening made
    -- At each moment an image is that of the first k commits.
    pub each : LeavesOnly g.moment g.left_since start final (HasAtLeast core (acknowledged c.history))
    -- The events were made one after another, on a disk that had let through the calls of the opening or fewer, and what each of them
    -- acknowledged or forced lasts.
    pub opened : D
    pub few : g.passed opened ≤ counted at_opening (g.passed start)
    pub stopped : D
    pub steps : AreSteps (LastingStep stop core start final) c opened made core stopped
    -- Each commit had the replies that it has when the commits are run one after another.
    pub replies : replies_of_commits core.history ≡ serial_replies core.g0 (commits core.history)
    -- The lines of all events but perhaps the last one are printed, however the run ends.
    pub lines : IsTrue told → WroteLines before core.history after
    -- And nothing is printed but a prefix of all lines, of how many commits came back, and of their graph.
    pub front : IsTrue told → (k : ℕ) × WroteFront before (lines_text core.history ++ end_text stop k (serial core.g0 (take k (commits core.history)))) after
    -- What is printed of a run that is done is the graph of the first k commits, for the k that is printed; all that lasts is among them, and each
    -- image that a crash then leaves stands for exactly these.
    pub printed : result ≡ status.Done → IsTrue told → (k : ℕ) × (lasting core ≤ k) × (k ≤ length (commits core.history)) × (after ≡ before ++ (lines_text core.history ++ end_text stop k (serial core.g0 (take k (commits core.history)))))
        × ((image : List ℕ) → g.may_leave final image → StandsFor (serial core.g0 (take k (commits core.history))) (core.before + k) image)

  -- Either no heap was made, or it is crash safe from then on; or the existing heap is crash safe, or the run did not begin.
  abbrev pub RunsSafely : Option ℕ → Option Stop → (List Line → Type 0) → D → D → Status → Bool → List ℕ → List ℕ → Type 0
  RunsSafely (Some pages) stop is_script old new result told before after =
      IsNotMade g (made_super pages) old new result told before after ⊎ ((made : D) × IsFormatted g (made_super pages) old made × IsCrashSafe (stop_after stop) is_script 0 (made_core pages (g.bytes made)) made new result told before after)
  RunsSafely None stop is_script old new result told before after =
      IsNotBegun g old new result told before after ⊎ ((stored : IsStored (g.bytes old)) → IsCrashSafe (stop_after stop) is_script (stored_calls stored) (stored_core stored) old new result told before after)
