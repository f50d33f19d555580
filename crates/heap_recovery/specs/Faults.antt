-- What is wrong with an image, and where: what an opening looks for, in this order, is numbers of a heap, batches in the log, records that follow
-- one another, room for their rollback, pages that are not ahead of the log, and objects in the words. A frame is not checked further: what it
-- holds is a page's LSN and words, whatever they are.
use Rattle.std.specs.Prelude.{◌≡◌, ◌⊎◌, ℕ, ◌+◌, ◌-◌, ◌<◌, ◌≤◌, List, length, take, Some}
use Rattle.std.specs.List.{AllByRecursion}
use Rattle.gated_log.specs.Log.{HoldsBatches, BreaksAt, batches_bytes}
use Rattle.image_plan.specs.declared.superblock.Super.{Super}
use Rattle.image_plan.specs.Plan.{image_size}
use Rattle.image_plan.specs.Super.{IsSuper, superblock}
use Rattle.log_records.specs.Record.{IsRecord}
use Rattle.log_machine.specs.Machine.{State, reserve}
use Rattle.log_machine.specs.Replay.{IsFirstUnshaped}
use Rattle.page_redo.specs.Pages.{Pages}
use Rattle.page_redo.specs.Redo.{EachLacks}
use Rattle.page_cache.specs.CacheState.{IsFirstPast}
use Rattle.page_cache.specs.Stored.{stored_pages}
use Rattle.object_layout.specs.CollectionWalk.{IsWalkFaultBeside}
use Rattle.walk_laws.specs.Heap.{from_space}
use Rattle.heap_model.specs.Image.{StoredHeap, origin_of, records_in, state_in, next_lsn_of, words_of, log_part, SameOutsideLog}
use Rattle.heap_model.specs.Opening.{IsLater}
use Rattle.heap_recovery.specs.declared.at.At.{At}
use Rattle.heap_recovery.specs.declared.at.At.TheVariants.{Batch, Rec, Reserve, Page, Address}
use Rattle.heap_recovery.specs.declared.error.RecoverError.{RecoverError}
use Rattle.heap_recovery.specs.declared.error.RecoverError.TheVariants.{NoMemory, NotHeap, Damaged, Disk}
use Rattle.heap_recovery.specs.Recovered.{IsFromOutside}

-- the pages that the image of a heap with these numbers has stored
abbrev pub stored_in : Super → List ℕ → Pages
stored_in s image = stored_pages s.pages s.log_bytes image

-- The image begins with the superblock of a heap with these numbers, and has the bytes of its plan.
pub record HasSuper (s : Super) (image : List ℕ) : Type 0 where
  pub limits : IsSuper s
  pub super : take 64 image ≡ superblock s
  pub size : image_size s.pages s.log_bytes ≤ length image

-- no numbers are those of the image
abbrev pub IsNoHeap : List ℕ → Type 0
IsNoHeap image = (s : Super) → ¬ HasSuper s image

-- It holds this heap, whose log is of whole records.
pub record HoldsLog (stored : StoredHeap) (image : List ℕ) : Type 0 where
  pub super : HasSuper stored.super image
  pub held : HoldsBatches (log_part stored.super image) stored.batches
  pub pages : stored_in stored.super image ≡ stored.pages
  pub good : AllByRecursion IsRecord (records_in stored)

-- They follow one another, and leave this state.
pub record IsReplayed (stored : StoredHeap) (state : State) (image : List ℕ) : Type 0 where
  pub log : HoldsLog stored image
  pub reached : state_in stored ≡ Some state

-- And the log has room for the rollback of what has not ended.
pub record HasRoom (stored : StoredHeap) (state : State) (image : List ℕ) : Type 0 where
  pub replayed : IsReplayed stored state image
  pub room : length (batches_bytes stored.batches) + 1 + reserve state ≤ stored.super.log_bytes

-- And no page is ahead of it.
pub record IsReadable (stored : StoredHeap) (state : State) (image : List ℕ) : Type 0 where
  pub roomy : HasRoom stored state image
  pub behind : EachLacks (next_lsn_of stored) stored.pages

-- Where an image is damaged: what comes first in the order in which it is checked.
abbrev pub IsFaultAt : At → List ℕ → Type 0
IsFaultAt (Batch offset) image = (s : Super) × HasSuper s image × BreaksAt (log_part s image) offset
IsFaultAt (Rec lsn) image = (stored : StoredHeap) × HoldsLog stored image × IsFirstUnshaped (origin_of stored).lsn (origin_of stored).state (records_in stored) lsn
IsFaultAt Reserve image = (stored : StoredHeap) × (state : State) × IsReplayed stored state image × (stored.super.log_bytes < length (batches_bytes stored.batches) + 1 + reserve state)
IsFaultAt (Page page) image = (stored : StoredHeap) × (state : State) × HasRoom stored state image × IsFirstPast (next_lsn_of stored - 1) page stored.pages
IsFaultAt (Address address) image = (stored : StoredHeap) × (state : State) × IsReadable stored state image × IsWalkFaultBeside (words_of stored) state.base state.used (from_space state) address

-- what an error reports of the image
abbrev pub IsToldOf : RecoverError → List ℕ → Type 0
IsToldOf NoMemory image = Unit {0}
IsToldOf NotHeap image = IsNoHeap image
IsToldOf (Damaged at) image = IsFaultAt at image
IsToldOf (Disk e) image = Unit {0}

-- what an error reports of a log's bytes: where they break off
abbrev pub IsToldOfLog : List ℕ → RecoverError → Type 0
IsToldOfLog log (Damaged (Batch offset)) = BreaksAt log offset
IsToldOfLog log e = IsFromOutside e

-- the error is this one, or reports nothing of the image
abbrev pub IsErrorOrOutside : RecoverError → RecoverError → Type 0
IsErrorOrOutside this e = (e ≡ this) ⊎ IsFromOutside e

-- An error that comes before a write. Damage at an address is reported after the rollback.
abbrev pub ComesBeforeWrites : RecoverError → Type 0
ComesBeforeWrites (Damaged (Address address)) = ⊥
ComesBeforeWrites (Disk e) = ⊥
ComesBeforeWrites e = Unit {0}

-- An opening of an image that holds this heap leaves one that holds it, or what it is after the opening. Each byte outside of the log is as it was.
abbrev pub IsLogLeft : StoredHeap → List ℕ → List ℕ → Type 0
IsLogLeft stored old image = (later : StoredHeap) × IsLater stored later × HoldsLog later image × SameOutsideLog stored.super old image

-- What openings leave of an image whose log can be read, whatever its words.
abbrev pub IsLeftOf : List ℕ → List ℕ → Type 0
IsLeftOf old image = (stored : StoredHeap) × (state : State) × IsReadable stored state old × IsLogLeft stored old image
