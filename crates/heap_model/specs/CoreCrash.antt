-- What a crash leaves of a core.
use Rattle.std.specs.Prelude.{◌≡◌, ℕ, ◌+◌, ◌<◌, ◌≤◌, List, length, take, Contains}
use Rattle.graph_model.specs.Transaction.{serial}
use Rattle.graph_model.specs.History.{commits, acknowledged}
use Rattle.image_plan.specs.declared.superblock.Super.{Super}
use Rattle.image_plan.specs.Super.{IsSuper}
use Rattle.log_records.specs.declared.Record.{Record}
use Rattle.gated_log.specs.Log.{records_of}
use Rattle.page_redo.specs.Pages.{Pages, pages_in, lsn_of}
use Rattle.page_redo.specs.Prefix.{EachHoldsPrefix}
use Rattle.page_redo.specs.Redo.{words_from}
use Rattle.heap_model.specs.Core.{Core, log_origin, commits_on_disk, stages}
use Rattle.heap_model.specs.Image.{StoredHeap, StandsFor}
use Rattle.heap_model.specs.Opening.{next_of}

-- A core's words are those that its log leaves.
abbrev pub HasLogWords : Core → Type 0
HasLogWords c = c.words ≡ words_from (log_origin c) (records_of c.batches)

-- So they are, and each page that is stored beside it has the LSN that the core knows, and holds the effects of its records up to that.
pub record IsLogged (c : Core) (stored : Pages) : Type 0 where
  pub words : HasLogWords c
  pub prefixes : EachHoldsPrefix (log_origin c) (records_of c.batches) stored
  pub lsns : (p : ℕ) → p < pages_in c.pages → lsn_of stored p ≡ c.stored_lsns p

-- what is stored of a core's heap where its log holds its batches, with this superblock and these pages
abbrev pub held_of : Super → Core → Pages → StoredHeap
held_of s c pages = record { super = s; batches = c.batches; pages = pages }

-- The disk holds the batches that were forced, or those that wait as well, each after those before it.
abbrev pub IsOnDisk : Core → List (List Record) → Type 0
IsOnDisk c batches = Contains (stages c) batches

-- the superblock is that of a core's heap
pub record IsSuperOf (s : Super) (c : Core) : Type 0 where
  pub limits : IsSuper s
  pub pages : s.pages ≡ c.pages
  pub room : s.log_bytes ≡ c.room
  pub first : s.first ≡ c.first_number

-- An image stands for the first k commits of a core since its opening. All that was acknowledged is among them, and so is what was forced
-- though no reply says so. It has the core's superblock, and its next transaction number is not below the core's first.
pub record StandsForFirst (c : Core) (k : ℕ) (image : List ℕ) : Type 0 where
  pub stands : StandsFor (serial c.g0 (take k (commits c.history))) (c.before + k) image
  pub of : IsSuperOf stands.stored.super c
  pub next : c.first ≤ next_of stands.stored
  pub kept : acknowledged c.history ≤ k
  pub forced : commits_on_disk c ≤ c.before + k
  pub some : k ≤ length (commits c.history)

-- The image stands for a commit prefix: for the first k commits, with all that was acknowledged among them.
abbrev pub IsCommitPrefix : Core → List ℕ → Type 0
IsCommitPrefix c image = (k : ℕ) × StandsForFirst c k image

-- The image stands for the first commits, at least `least` of them.
pub record HasAtLeast (c : Core) (least : ℕ) (image : List ℕ) : Type 0 where
  pub count : ℕ
  pub stands : StandsFor (serial c.g0 (take count (commits c.history))) (c.before + count) image
  pub enough : least ≤ count
  pub some : count ≤ length (commits c.history)
