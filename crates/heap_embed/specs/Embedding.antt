-- What a host is answered, and what becomes of the heap inside.
use Rattle.std.specs.Prelude.{◌≡◌, ◌≢◌, ◌⊎◌, ◌↔◌, ℕ, List, ◌<◌, ◌≤◌, [], ◌++◌, length, replicate, take, slice_index_or, Option, Some, None, Result, Ok, Err, ⊤}
use Rattle.std.specs.Int.{w64, to_le_bytes}
use Rattle.std.specs.declared.alloc.AllocError.{AllocError}
use Rattle.disk_model.specs.declared.disk.Disk.{Ghosts}
use Rattle.disk_model.specs.Memory.{Memory, Change, Sync, now_of, begun_anew}
use Rattle.graph_model.specs.declared.event.Event.{Event}
use Rattle.graph_model.specs.declared.reply.Reply.{Reply}
use Rattle.graph_model.specs.History.{IsOfSession}
use Rattle.heap_core.specs.Causes.{recovery_error}
use Rattle.heap_core.specs.Format.{heap_of}
use Rattle.heap_core.specs.Refinement.{IsCoreOn}
use Rattle.heap_core.specs.declared.errors.OpenError.{OpenError}
use Rattle.heap_model.specs.Core.{Core}
use Rattle.heap_recovery.specs.Opens.{OpensImage}
use Rattle.image_plan.specs.declared.superblock.Super.{Super}
use Rattle.image_plan.specs.Super.{IsSuper}
use Rattle.heap_embed.specs.declared.answer.Answer.{Answer}
use Rattle.heap_embed.specs.declared.answer.Answer.TheVariants as answer
use Rattle.heap_embed.specs.declared.ask.Ask.{Ask}
use Rattle.heap_embed.specs.declared.ask.Ask.TheVariants as ask
use Rattle.heap_embed.specs.declared.host_disk.HostDisk.{HostDisk}
use Rattle.heap_embed.specs.declared.open_heap.OpenHeap.{OpenHeap}
use Rattle.heap_embed.specs.declared.state.State.{State}
use Rattle.heap_embed.specs.declared.state.State.TheVariants.{Image, Closed, Open}
use Rattle.heap_embed.specs.Figures.{IsFigure}
use Rattle.heap_embed.specs.Formats.{WasFormatted}
use Rattle.heap_embed.specs.Host.{begins_with}
use Rattle.heap_embed.specs.OpenHeaps.{MakesStep, StaysHeap, WasOpened}
use Rattle.heap_embed.specs.Told.{bytes_told, change_answer, open_answer, word_of}

-- the disk that tells, if there is one
abbrev pub disk_of : State → Option Memory
disk_of (Image bytes) = None
disk_of (Closed disk) = Some disk.disk
disk_of (Open heap) = Some heap.disk

-- the changes that are told: none where there is no disk yet
abbrev pub changes_told : State → List Change
changes_told (Image bytes) = []
changes_told (Closed disk) = disk.disk.changes
changes_told (Open heap) = heap.disk.changes

-- the disk on which a heap is opened: one that begins with the bytes that were handed in, or that of a heap that was closed
abbrev pub Hands : State → Memory → Type 0
Hands (Image bytes) disk = begins_with bytes.items disk
Hands (Closed closed) disk = disk ≡ closed.disk
Hands (Open heap) disk = ⊥

-- no heap is open
abbrev pub IsNotOpen : State → Type 0
IsNotOpen (Image bytes) = ⊤
IsNotOpen (Closed disk) = ⊤
IsNotOpen (Open heap) = ⊥

-- so many bytes were handed in, and nothing else was done
abbrev pub HandedIn : State → List ℕ → Type 0
HandedIn (Image bytes) items = bytes.items ≡ items
HandedIn (Closed disk) items = ⊥
HandedIn (Open heap) items = ⊥

-- a heap is closed, and this is its disk
abbrev pub IsClosedOn : State → Memory → Type 0
IsClosedOn (Image bytes) disk = ⊥
IsClosedOn (Closed closed) disk = closed.disk ≡ disk
IsClosedOn (Open heap) disk = ⊥

-- There is no disk to open or to format: a heap that is open stays as it is, and what was handed in is let go where memory for its disk was refused.
abbrev pub HasNoDisk : State → Answer → State → Type 0
HasNoDisk (Image bytes) answered new = (answered ≡ answer.NoMemory) × HandedIn new []
HasNoDisk (Closed disk) answered new = ⊥
HasNoDisk (Open heap) answered new = (answered ≡ answer.NotNow) × (new ≡ Open heap)

-- there is a disk already
abbrev pub HasDisk : State → Type 0
HasDisk (Image bytes) = ⊥
HasDisk (Closed disk) = ⊤
HasDisk (Open heap) = ⊤

-- Bytes are taken up behind those that were handed in already, unless memory is refused.
abbrev pub TakesUp : List ℕ → List ℕ → Answer → State → Type 0
TakesUp before more answered new = ((answered ≡ answer.Done) × HandedIn new (before ++ more)) ⊎ ((answered ≡ answer.NoMemory) × HandedIn new before)

-- the answer to an event, by its reply
abbrev pub event_answer : Result Reply AllocError → Answer
event_answer (Ok reply) = answer.Reply reply
event_answer (Err e) = answer.NoMemory

module _ (g : Ghosts Memory) where
  -- An open heap makes the event on its disk, and that is answered.
  pub record MakesEvent (event : Event) (answered : Answer) (new : State) (heap : OpenHeap) : Type 0 where
    pub result : Result Reply AllocError
    pub says : answered ≡ event_answer result
    pub next : OpenHeap
    pub still_open : new ≡ Open next
    pub steps : MakesStep g heap.core heap.disk event result next.core next.disk

  -- What was told is forgotten, of which all is synced: the disk begins anew, and an open heap is the same one.
  pub record Forgets (old new : State) (disk : Memory) : Type 0 where
    pub synced : (now_of disk).pending ≡ []
    pub anew : disk_of new ≡ Some (begun_anew disk)
    pub closed : (closed : HostDisk) → old ≡ Closed closed → (next : HostDisk) × (new ≡ Closed next)
    pub heap : (heap : OpenHeap) → old ≡ Open heap → (next : OpenHeap) × (new ≡ Open next) × (next.core ≡ heap.core) × StaysHeap g heap.core heap.disk next.core next.disk

  -- The heap was opened.
  pub record Opens (old new : State) : Type 0 where
    pub disk : Memory
    pub handed : Hands old disk
    pub heap : OpenHeap
    pub now_open : new ≡ Open heap
    pub opened : WasOpened g disk heap.core heap.disk

  -- The heap on a disk was not opened, which is answered, and the disk is one of a closed heap: an opening that reports this error left it so.
  pub record IsRefused (old : State) (answered : Answer) (new : State) : Type 0 where
    pub disk : Memory
    pub handed : Hands old disk
    pub closed : HostDisk
    pub now_closed : new ≡ Closed closed
    pub error : OpenError
    pub says : answered ≡ open_answer error
    pub image : OpensImage g disk closed.disk (Err (recovery_error error))

  -- An empty heap was to be made on a disk, which is that of a closed heap then.
  pub record Formats (of : Super) (old : State) (answered : Answer) (new : State) : Type 0 where
    pub disk : Memory
    pub handed : Hands old disk
    pub closed : HostDisk
    pub now_closed : new ≡ Closed closed
    pub made : WasFormatted g of disk answered closed.disk

  -- figure i of a heap: of one that is not open each is 0
  abbrev pub IsFigureOf : State → ℕ → ℕ → Type 0
  IsFigureOf (Image bytes) i n = n ≡ 0
  IsFigureOf (Closed disk) i n = n ≡ 0
  IsFigureOf (Open heap) i n = (c : Core) → IsCoreOn g c heap.core heap.disk → IsFigure c i n

  -- What is answered, and what there is of the heap then.
  abbrev pub Answers : State → Ask → Answer → State → Type 0
  Answers old (ask.Event event) answered new =
      ((heap : OpenHeap) → old ≡ Open heap → IsOfSession event → MakesEvent event answered new heap) × (¬ IsOfSession event → (answered ≡ answer.NotAnAsk) × (new ≡ old))
      × (IsNotOpen old → IsOfSession event → (answered ≡ answer.NotNow) × (new ≡ old))
  Answers old ask.Open answered new = (answered ≡ answer.Done → Opens old new) × (answered ≢ answer.Done → HasNoDisk old answered new ⊎ IsRefused old answered new)
  Answers old ask.Done answered new =
      (answered ≡ answer.Done → (disk : Memory) → disk_of old ≡ Some disk → Forgets old new disk) × (answered ≢ answer.Done → new ≡ old) × (disk_of old ≡ None → answered ≡ answer.NotNow)
      × ((disk : Memory) → disk_of old ≡ Some disk → (answered ≡ answer.Done ↔ ((now_of disk).pending ≡ [])) × ((answered ≡ answer.Done) ⊎ (answered ≡ answer.Unsynced)))
  Answers old ask.Told answered new = (new ≡ old) × (answered ≡ answer.Number (length (changes_told old)))
  Answers old (ask.Item k) answered new =
      (new ≡ old) × (k < length (changes_told old) → answered ≡ change_answer (slice_index_or (changes_told old) k Sync)) × (length (changes_told old) ≤ k → answered ≡ answer.NoItem)
  Answers old ask.Close answered new =
      ((heap : OpenHeap) → old ≡ Open heap → (answered ≡ answer.Done) × IsClosedOn new heap.disk) × (IsNotOpen old → (answered ≡ answer.NotNow) × (new ≡ old))
  Answers old (ask.More word count) answered new =
      ((bytes : _) → old ≡ Image bytes → count ≤ 8 → TakesUp bytes.items (take count (to_le_bytes w64 word)) answered new)
      × ((bytes : _) → old ≡ Image bytes → 8 < count → (answered ≡ answer.NotAnAsk) × (new ≡ old))
      × (HasDisk old → (answered ≡ answer.NotNow) × (new ≡ old))
  Answers old (ask.Zeros count) answered new =
      ((bytes : _) → old ≡ Image bytes → TakesUp bytes.items (replicate count 0) answered new) × (HasDisk old → (answered ≡ answer.NotNow) × (new ≡ old))
  Answers old (ask.Format pages log_bytes first) answered new =
      (¬ IsSuper (heap_of pages log_bytes first) → (answered ≡ answer.PastLimits) × (new ≡ old)) × (IsSuper (heap_of pages log_bytes first) → HasNoDisk old answered new ⊎ Formats (heap_of pages log_bytes first) old answered new)
  Answers old (ask.Bytes k from) answered new = (new ≡ old) × (answered ≡ answer.Number (word_of (bytes_told (slice_index_or (changes_told old) k Sync)) from))
  Answers old (ask.Figure i) answered new = (new ≡ old) × (n : ℕ) × (answered ≡ answer.Number n) × IsFigureOf old i n
  Answers old (ask.Last i) answered new = new ≡ old
  Answers old ask.Fail answered new = new ≡ old
