-- What an image of a disk stands for: its log, redone on its pages, says a graph and a number of commits, and the disk holds both.
use Rattle.std.specs.Prelude.{◌≡◌, ℕ, ◌+◌, ◌≤◌, List, Option, length, take, Some}
use Rattle.std.specs.List.{AllByRecursion}
use Rattle.disk_model.specs.Disk.{part, SameOutside}
use Rattle.graph_model.specs.Graph.{Graph}
use Rattle.graph_model.specs.Canon.{canon}
use Rattle.image_plan.specs.declared.superblock.Super.{Super}
use Rattle.log_records.specs.declared.Record.{Record}
use Rattle.image_plan.specs.Plan.{log_offset, image_size}
use Rattle.image_plan.specs.Super.{IsSuper, superblock}
use Rattle.log_records.specs.Record.{IsRecord}
use Rattle.log_machine.specs.Machine.{State, words_in, each_taken_back, losing_in, reserve}
use Rattle.page_redo.specs.Origin.{Origin, heap_origin, next_lsn, state_from}
use Rattle.page_redo.specs.Pages.{Pages, pages_in}
use Rattle.page_redo.specs.Redo.{EachLacks, redone}
use Rattle.page_redo.specs.Prefix.{EachHoldsPrefix}
use Rattle.page_cache.specs.Stored.{stored_pages}
use Rattle.object_layout.specs.Layout.{IsSeen}
use Rattle.walk_laws.specs.Births.{AreBornBeside}
use Rattle.walk_laws.specs.Heap.{IsStateWalked, from_space}
use Rattle.gated_log.specs.Log.{HoldsBatches, batches_bytes, records_of}
use Rattle.heap_model.specs.Bits.{AreOf64Bits}

-- What an image holds of a heap: the numbers of its superblock, the batches of its log, and its pages as they are stored.
pub record StoredHeap : Type 0 where
  pub super : Super
  pub batches : List (List Record)
  pub pages : Pages

-- where its log begins
abbrev pub origin_of : StoredHeap → Origin
origin_of stored = heap_origin stored.super.pages stored.super.first

-- the records of its log
abbrev pub records_in : StoredHeap → List Record
records_in stored = records_of stored.batches

-- what they say
abbrev pub state_in : StoredHeap → Option State
state_in stored = state_from (origin_of stored) (records_in stored)

-- the LSN of a record after them
abbrev pub next_lsn_of : StoredHeap → ℕ
next_lsn_of stored = next_lsn (origin_of stored) (records_in stored)

-- the words when each of them is redone on the pages that lack it
abbrev pub redone_words : StoredHeap → List ℕ
redone_words stored = (redone (origin_of stored) stored.pages (records_in stored)).words

-- and then the writes of transactions that have not ended are taken back
abbrev pub words_of : StoredHeap → List ℕ
words_of stored = each_taken_back (losing_in (state_in stored)) (redone_words stored)

-- What a stored heap with a shaped log is: its records follow one another; it has room for those that take back what transactions wrote
-- that have not ended; no page is ahead of it; and when it is redone on the pages, and these writes are taken back, each word has 64 bits,
-- and the used words are objects that refer to one another: those of the current space, and where a collection is under way those of the
-- space that it empties too.
pub record IsShapedLog (stored : StoredHeap) : Type 0 where
  pub limits : IsSuper stored.super
  pub good : AllByRecursion IsRecord (records_in stored)
  pub state : State
  pub reached : state_in stored ≡ Some state
  pub room : length (batches_bytes stored.batches) + 1 + reserve state ≤ stored.super.log_bytes
  pub size : length stored.pages.words ≡ words_in stored.super.pages
  pub lsns_size : length stored.pages.lsns ≡ pages_in stored.super.pages
  pub behind : EachLacks (next_lsn_of stored) stored.pages
  pub fit : AreOf64Bits (words_of stored)
  pub walked : IsStateWalked state (words_of stored)

-- A legal log: a shaped one beside pages that each hold the effects of its records up to their LSN, in which the births of each space differ
-- and come from transactions below the next one, and a copy has that of its original. An opening does not look at births, nor at what pages
-- hold.
pub record IsLegalLog (stored : StoredHeap) : Type 0 where
  pub shaped : IsShapedLog stored
  pub prefixes : EachHoldsPrefix (origin_of stored) (records_in stored) stored.pages
  pub births : AreBornBeside shaped.state.next (words_of stored) shaped.state.base shaped.state.used (from_space shaped.state) shaped.walked

-- the part of an image in which its log lies
abbrev pub log_part : Super → List ℕ → List ℕ
log_part s image = part image log_offset s.log_bytes

-- Two images are the same outside of the log.
abbrev pub SameOutsideLog : Super → List ℕ → List ℕ → Type 0
SameOutsideLog s old new = SameOutside log_offset (log_offset + s.log_bytes) old new

-- A disk's image holds this heap.
pub record Holds (stored : StoredHeap) (image : List ℕ) : Type 0 where
  pub size : image_size stored.super.pages stored.super.log_bytes ≤ length image
  pub super : take 64 image ≡ superblock stored.super
  pub log : HoldsBatches (log_part stored.super image) stored.batches
  pub pages : stored_pages stored.super.pages stored.super.log_bytes image ≡ stored.pages

-- A shaped image: it holds a heap, and the log of that is shaped.
pub record IsShaped (stored : StoredHeap) (image : List ℕ) : Type 0 where
  pub log : IsShapedLog stored
  pub held : Holds stored image

-- A legal image: it holds a heap, and the log of that is legal. Of what is opened on an unmodelled disk no more is known than that a log is
-- shaped.
pub record IsLegal (stored : StoredHeap) (image : List ℕ) : Type 0 where
  pub log : IsLegalLog stored
  pub held : Holds stored image

-- a graph is seen in what the log leaves of the pages
abbrev pub Shows : (stored : StoredHeap) → IsLegalLog stored → Graph → Type 0
Shows stored legal g = IsSeen (words_of stored) legal.shaped.state.base g

-- A stored heap with a legal log says a graph, up to the names of objects, and a number of commits.
pub record Says (g : Graph) (k : ℕ) (stored : StoredHeap) : Type 0 where
  pub legal : IsLegalLog stored
  pub seen : Graph
  pub shows : Shows stored legal seen
  pub graph : canon seen ≡ canon g
  pub count : legal.shaped.state.commits ≡ k

-- An image stands for a graph, up to the names of objects, and a number of commits.
pub record StandsFor (g : Graph) (k : ℕ) (image : List ℕ) : Type 0 where
  pub stored : StoredHeap
  pub says : Says g k stored
  pub held : Holds stored image
