-- What a program keeps that opens a heap, makes events, crashes, and continues.
use Rattle.std.specs.Prelude.{◌≡◌, ◌⊎◌, ℕ, ◌+◌, true, List, take}
use Rattle.counts.specs.Count.{Rose}
use Rattle.disk_model.specs.declared.disk.Disk.{Ghosts}
use Rattle.graph_model.specs.declared.event.Event.{Event}
use Rattle.graph_model.specs.Graph.{Graph}
use Rattle.graph_model.specs.Canon.{canon}
use Rattle.graph_model.specs.Transaction.{serial}
use Rattle.graph_model.specs.History.{commits}
use Rattle.graph_words.specs.Places.{Places}
use Rattle.page_store.specs.Gates.{open_gates}
use Rattle.heap_model.specs.Core.{Core, IsRun}
use Rattle.heap_model.specs.CoreCrash.{StandsForFirst}
use Rattle.heap_model.specs.CoreRuns.{after_events}
use Rattle.heap_model.specs.Image.{StandsFor}
use Rattle.heap_model.specs.Opening.{opened, IsFound}
use Rattle.core_laws.specs.Valid.{IsReached}

-- the core that is opened on an image of a graph and commits, under these names of its objects
abbrev pub opened_on : {g : Graph} {k : ℕ} {image : List ℕ} → StandsFor g k image → Places → Graph → Core
opened_on {image = image} stands places named = opened stands.stored (open_gates stands.stored.super.log_bytes image) true places named

-- A heap was opened on an image that stands for graph g and k commits, and these events led from the core that was opened to c. If the disk was
-- not harmed, all of them were made, one after another; otherwise the run was cut short at some event.
pub record IsGoing (g : Graph) (k : ℕ) (image : List ℕ) (events : List Event) (unharmed : Type 0) (c : Core) : Type 0 where
  pub stands : StandsFor g k image
  pub places : Places
  pub named : Graph
  pub found : IsFound stands.stored stands.says.legal.shaped true places named
  pub same : canon named ≡ canon g
  pub run : IsRun (opened_on stands places named) events c
  pub all : unharmed → c ≡ after_events (opened_on stands places named) events
  pub reached : IsReached c

module _ {D : Type 0} (ghosts : Ghosts D) where
  -- No call of the disk failed or found it stopped: neither count rose.
  abbrev pub Unharmed : D → D → Type 0
  Unharmed old new = ¬ (Rose (ghosts.faults old) (ghosts.faults new) ⊎ Rose (ghosts.stops old) (ghosts.stops new))

  -- A round: a heap was opened on a disk whose image stood for graph g and k commits, these events were made, and after a crash the disk stands
  -- for h and j: for a commit prefix of that run that has all that were acknowledged or forced in it.
  pub record IsRound (events : List Event) (disk : D) (g : Graph) (k : ℕ) (left : D) (h : Graph) (j : ℕ) : Type 0 where
    pub core : Core
    pub going : IsGoing g k (ghosts.bytes disk) events (Unharmed disk left) core
    pub first : ℕ
    pub stands : StandsForFirst core first (ghosts.bytes left)
    pub graph : h ≡ serial core.g0 (take first (commits core.history))
    pub count : j ≡ core.before + first

  -- A number of rounds of the same events, one after another, each on the disk that the one before it left.
  pub data Rounds (events : List Event) (disk : D) (g : Graph) (k : ℕ) : ℕ → D → Graph → ℕ → Type 0 where
    none : Rounds events disk g k 0 disk g k
    more : {n : ℕ} {mid : D} {h : Graph} {j : ℕ} (left : D) (i : Graph) (m : ℕ) → Rounds events disk g k n mid h j → IsRound events mid h j left i m → Rounds events disk g k (n + 1) left i m
