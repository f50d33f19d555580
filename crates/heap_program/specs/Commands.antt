-- What the commands that play nothing promise, and what each command asks of the disk.
use Rattle.std.specs.Prelude.{◌≡◌, ◌≢◌, ◌⊎◌, ℕ, ◌≤◌, List, [], ◌∷◌, ◌++◌, codes, Bool, IsTrue, Option, None, Some}
use Rattle.std.specs.Fmt.{decimal}
use Rattle.counts.specs.Count.{counted}
use Rattle.disk_model.specs.declared.disk.Disk.{Ghosts}
use Rattle.disk_model.specs.Disk.{Only}
use Rattle.disk_model.specs.Moments.{LeavesOnly}
use Rattle.graph_model.specs.Graph.{Graph}
use Rattle.image_plan.specs.declared.superblock.Super.{Super}
use Rattle.image_plan.specs.Plan.{image_size}
use Rattle.heap_core.specs.Format.{heap_of}
use Rattle.heap_model.specs.Image.{StoredHeap, Holds, IsShaped, SameOutsideLog}
use Rattle.heap_model.specs.Opening.{rolled_back, opening_calls, IsLeftByOpening}
use Rattle.command_words.specs.declared.commands.Command.{Command}
use Rattle.command_words.specs.declared.commands.Command.TheVariants as asked
use Rattle.command_words.specs.declared.commands.Numbers.{Numbers}
use Rattle.heap_program.specs.declared.status.Status.{Status}
use Rattle.heap_program.specs.declared.status.Status.TheVariants as status
use Rattle.heap_program.specs.Causes.{IsFaultless, IsFaultlessLoad, IsOpenedEnd}
use Rattle.heap_program.specs.Headline.{made_super, graph_text, restarts_asked, CanPlay, IsEndOfPlay, IsFormatted, IsNotMade}
use Rattle.heap_program.specs.Play.{WroteFront}

-- the numbers of the heap that a command makes, if it makes one
abbrev pub makes : Command → Option Super
makes (asked.Format n) = Some (heap_of n.pages n.log_bytes n.first)
makes (asked.Play None stop) = None
makes (asked.Play (Some pages) stop) = Some (made_super pages)
makes (asked.Threads None tries) = None
makes (asked.Threads (Some pages) tries) = Some (made_super pages)
makes asked.Graph = None
makes (asked.Load seed count None) = None
makes (asked.Load seed count (Some pages)) = Some (made_super pages)

-- the numbers of a heap, as a command names them
abbrev pub superblock_numbers : Super → Numbers
superblock_numbers s = record { pages = s.pages; log_bytes = s.log_bytes; first = s.first }

-- how often a command restarts the disk
abbrev pub restarts_of : Command → ℕ
restarts_of (asked.Format n) = 0
restarts_of (asked.Play fresh stop) = restarts_asked stop
restarts_of (asked.Threads fresh tries) = 0
restarts_of asked.Graph = 0
restarts_of (asked.Load seed count fresh) = 0

-- What a command can be done on: a disk that is large enough for the heap that it makes, or one that holds a heap.
abbrev pub CanRun : Command → ℕ → List ℕ → Type 0
CanRun (asked.Format n) extent image = image_size n.pages n.log_bytes ≤ extent
CanRun (asked.Play fresh stop) extent image = CanPlay fresh extent image
CanRun (asked.Threads fresh tries) extent image = CanPlay fresh extent image
CanRun (asked.Load seed count fresh) extent image = CanPlay fresh extent image
CanRun asked.Graph extent image = (stored : StoredHeap) × IsShaped stored image

-- A command that reads a script.
abbrev pub IsPlay : Command → Type 0
IsPlay (asked.Play fresh stop) = Unit {0}
IsPlay (asked.Threads fresh tries) = Unit {0}
IsPlay command = ⊥

-- The statuses with which a command ends that was read.
abbrev pub IsEndOf : Command → Status → Type 0
IsEndOf (asked.Format n) (status.TooSmall size need) = Unit {0}
IsEndOf (asked.Format n) s = IsEndOfPlay s
IsEndOf (asked.Play fresh stop) status.Usage = ⊥
IsEndOf (asked.Play fresh stop) s = Unit {0}
IsEndOf (asked.Threads fresh tries) status.Usage = ⊥
IsEndOf (asked.Threads fresh tries) s = Unit {0}
IsEndOf asked.Graph s = IsOpenedEnd s
IsEndOf (asked.Load seed count fresh) (status.TooSmall size need) = Unit {0}
IsEndOf (asked.Load seed count fresh) s = IsOpenedEnd s

-- The statuses with which a command that starts no disk again met no fault of the disk: where it makes no event, all but the disk's own fault.
abbrev pub MeetsNoFault : Command → Status → Type 0
MeetsNoFault (asked.Format n) s = s ≢ status.DiskFault
MeetsNoFault (asked.Play fresh stop) s = IsFaultless s
MeetsNoFault (asked.Threads fresh tries) s = IsFaultless s
MeetsNoFault asked.Graph s = s ≢ status.DiskFault
MeetsNoFault (asked.Load seed count fresh) s = IsFaultlessLoad s

-- the line of a format, with the size of the image in bytes
abbrev pub formatted_line : Super → List ℕ
formatted_line s = codes "formatted " ++ decimal (image_size s.pages s.log_bytes) ++ 10 ∷ []

-- A text was written, all of it if the run is done, and otherwise a prefix.
pub record WritesText (result : Status) (text before after : List ℕ) : Type 0 where
  pub front : WroteFront before text after
  pub whole : result ≡ status.Done → after ≡ before ++ text

-- How often the disk was called in an opening of n writes and syncs: n times if the run is done, and otherwise no more often.
pub record CallsOpening (n : ℕ) (result : Status) (before now : ℕ) : Type 0 where
  pub times : ℕ
  pub most : times ≤ n
  pub all : result ≡ status.Done → times ≡ n
  pub told : now ≡ counted times before

module _ {D : Type 0} (g : Ghosts D) where
  -- A heap was made, and its size written.
  pub record MakesHeap (s : Super) (old new : D) (result : Status) (told : Bool) (before after : List ℕ) : Type 0 where
    pub format : IsFormatted g s old new
    pub written : IsTrue told → WritesText result (formatted_line s) before after
    pub end : IsEndOfPlay result

  -- Either that, or no heap was made.
  abbrev pub RunsFormat : Super → D → D → Status → Bool → List ℕ → List ℕ → Type 0
  RunsFormat s old new result told before after = IsNotMade g s old new result told before after ⊎ MakesHeap s old new result told before after

  -- The graph of a stored heap was written. At each moment a crash left the image as it was, or with its log rolled back.
  pub record PrintsGraph (stored : StoredHeap) (graph : Graph) (old new : D) (result : Status) (told : Bool) (before after : List ℕ) : Type 0 where
    pub moments : LeavesOnly g.moment g.left_since old new (IsLeftByOpening stored)
    pub left : (image : List ℕ) → g.may_leave new image → IsLeftByOpening stored image
    -- each byte outside of the log is as it was, those past the plan among them, and so it was at each moment
    pub outside : LeavesOnly g.moment g.left_since old new (SameOutsideLog stored.super (g.bytes old))
    pub calls : CallsOpening (opening_calls stored) result (g.passed old) (g.passed new)
    pub restarts : g.restarts new ≡ g.restarts old
    -- a run that is done leaves the log rolled back, and nothing unsynced
    pub holds : result ≡ status.Done → Holds (rolled_back stored) (g.bytes new) × Only (g.bytes new) (g.may_leave new)
    -- one that ends otherwise, but not by the disk, leaves nothing unsynced either
    pub settled : result ≢ status.DiskFault → Only (g.bytes new) (g.may_leave new)
    pub written : IsTrue told → WritesText result (graph_text graph) before after
    pub end : IsEndOfPlay result
