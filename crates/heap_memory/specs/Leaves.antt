-- What an event of a session leaves in memory.
use Rattle.std.specs.Prelude.{◌≡◌, ℕ, ◌+◌, List, [], ◌∷◌, ◌++◌, length, Option, None, Some, Ok, slice_set, slice_index, fold}
use Rattle.std.specs.FinSet as set
use Rattle.gated_log.specs.declared.log.Log.{Log}
use Rattle.gated_log.specs.LogState.{IsPlaced, IsSameLog, Keeps}
use Rattle.heap_words.specs.declared.Word.{Word}
use Rattle.heap_words.specs.declared.Word.TheVariants as word
use Rattle.heap_words.specs.Word.{bits, meaning}
use Rattle.log_records.specs.declared.Record.{Record}
use Rattle.log_records.specs.declared.Record.TheVariants.{Update}
use Rattle.log_machine.specs.Machine.{field_at, put_record, abort_records}
use Rattle.page_redo.specs.Pages.{Pages}
use Rattle.page_redo.specs.Redo.{redo_all}
use Rattle.heap_model.specs.Lsns.{log_next_lsn}
use Rattle.volatile_area.specs.Area as area
use Rattle.volatile_area.specs.Area.{with_object}
use Rattle.heap_spaces.specs.Collection.{Collection}
use Rattle.heap_spaces.specs.Copying.{begun, with_copies}
use Rattle.heap_spaces.specs.Spaces.{SpacesState, with_taken, with_copied, flipped}
use Rattle.flip_copy.specs.Copied.{moved_objects, copied_size}
use Rattle.log_machine.specs.Collecting.{pairs_of}
use Rattle.log_machine.specs.UndoEntry.{undo_entry}
use Rattle.txn_table.specs.Roots.{AreRoots}
use Rattle.txn_table.specs.Translation.{HaveGoneAlong}
use Rattle.object_locks.specs.declared.holding.Mode.{Mode}
use Rattle.object_locks.specs.declared.holding.Mode.TheVariants.{Shared, Exclusive}
use Rattle.object_locks.specs.Holdings.{Holdings, without, rekeyed}
use Rattle.txn_table.specs.declared.place.Place.{Place}
use Rattle.txn_table.specs.declared.place.Place.TheVariants.{Stable, Volatile}
use Rattle.txn_table.specs.Table.{TransactionState, TableState, with_transaction, with_begun, with_ended}
use Rattle.heap_memory.specs.Memory.{Memory, own, place_word, held_place, fields_at}
use Rattle.heap_memory.specs.Refusals.{asked, sealing_records, sealing_need}
use Rattle.heap_memory.specs.Replies.{words_behind}
use Rattle.heap_memory.specs.Collecting.{place_barrier, spaces_behind, collection_behind, flip_copies, flip_records, scan_event_records, IsNextPage}

-- The log has these further pending records, and is where it was.
pub record Adds (old new : Log) (records : List Record) : Type 0 where
  pub place : IsPlaced old new
  pub kept : (batches : List (List Record)) (pending : List Record) → Keeps old batches pending → Keeps new batches (pending ++ records)

-- the pages in memory
abbrev pub pages_of : Memory → Pages
pages_of m = record { words = m.words; lsns = m.lsns }

-- What an event leaves: these further records are pending, their effect is in the words, and the pages that they touch have their LSNs; the rest is
-- this.
pub record Leaves (old new : Memory) (records : List Record) (transactions : TableState) (held : Holdings) (current : SpacesState) (runs : Option Collection) (count : ℕ) : Type 0 where
  pub log : Adds old.log new.log records
  pub words : new.words ≡ fold put_record old.words records
  pub lsns : new.lsns ≡ (redo_all (log_next_lsn old.log) (pages_of old) records).lsns
  pub store : new.store ≡ old.store
  pub table : new.table ≡ transactions
  pub locks : new.locks ≡ held
  pub spaces : new.spaces ≡ current
  pub collection : new.collection ≡ runs
  pub sealed : new.sealed ≡ count

-- Nothing but the memory that is taken in advance may be other than it was.
pub record IsAsItWas (old new : Memory) : Type 0 where
  pub log : IsSameLog old.log new.log
  pub words : new.words ≡ old.words
  pub lsns : new.lsns ≡ old.lsns
  pub store : new.store ≡ old.store
  pub table : new.table ≡ old.table
  pub locks : new.locks ≡ old.locks
  pub spaces : new.spaces ≡ old.spaces
  pub collection : new.collection ≡ old.collection
  pub sealed : new.sealed ≡ old.sealed

-- What an event of session s leaves that appends these records: of its transaction this, these locks, and the spaces and the collection after
-- the records of its barrier.
abbrev pub LeavesOwn : Memory → Memory → ℕ → List Record → TransactionState → Holdings → Type 0
LeavesOwn old new s records t held =
    Leaves old new records (with_transaction old.table s t) held (spaces_behind old.spaces records) (collection_behind old.collection records) old.sealed

-- A transaction of session s began.
abbrev pub Begins : Memory → Memory → ℕ → Type 0
Begins old new s = Leaves old new [] (with_begun old.table s) old.locks old.spaces old.collection old.sealed

-- the transaction with this in one of its handles
abbrev pub with_handle : TransactionState → ℕ → Option Place → TransactionState
with_handle t h o = record t { handles = slice_set t.handles h o }

-- A handle holds this.
pub record SetsHandle (old new : Memory) (s h : ℕ) (o : Option Place) : Type 0 where
  pub transaction : TransactionState
  pub was : own old s ≡ Some transaction
  pub left : LeavesOwn old new s [] (with_handle transaction h o) old.locks

-- the transaction with one more object in its area, which a handle holds
abbrev pub with_made : TransactionState → ℕ → ℕ → TransactionState
with_made t h len = record t { handles = slice_set t.handles h (Some (Volatile (length t.area.words))); area = with_object t.area len }

-- An object was made.
pub record Makes (old new : Memory) (s h len : ℕ) : Type 0 where
  pub transaction : TransactionState
  pub was : own old s ≡ Some transaction
  pub left : LeavesOwn old new s [] (with_made transaction h len) old.locks

-- the transaction when a word was put into a field of the object at a place
abbrev pub with_written : List ℕ → TransactionState → Place → ℕ → ℕ → TransactionState
with_written words t (Stable at) i w = record t { undo = undo_entry at i (slice_index words (field_at at i)) ∷ t.undo }
with_written words t (Volatile at) i w = record t { area = area.with_field t.area at i w }

-- the records of that write
abbrev pub write_records : List ℕ → TransactionState → Place → ℕ → ℕ → List Record
write_records words t (Stable at) i w = Update t.number at i (slice_index words (field_at at i)) w ∷ []
write_records words t (Volatile at) i w = []

-- the locks when the object at a place is used in a mode: one of the transaction's own area needs none
abbrev pub with_lock : Holdings → TransactionState → Mode → Place → Holdings
with_lock locks t mode (Stable at) = set.insert locks (asked t.number mode at)
with_lock locks t mode (Volatile at) = locks

-- A word was put into a field of the object at a place, after the scan of its page where that is needed.
pub record Writes (old new : Memory) (s : ℕ) (p : Place) (i w : ℕ) : Type 0 where
  pub transaction : TransactionState
  pub was : own old s ≡ Some transaction
  pub left : let words = words_behind old (Ok p) i in LeavesOwn old new s (place_barrier old p i ++ write_records words transaction p i w) (with_written words transaction p i w) (with_lock old.locks transaction Exclusive p)

-- A word was put into a field of the object that a handle holds.
pub record WritesHeld (old new : Memory) (s h i w : ℕ) : Type 0 where
  pub place : Place
  pub held : held_place (own old s) h ≡ Ok place
  pub writes : Writes old new s place i w

-- A reference to the object that handle h2 holds was put into a field of the one that h holds.
pub record Links (old new : Memory) (s h i h2 : ℕ) : Type 0 where
  pub target : Place
  pub held : held_place (own old s) h2 ≡ Ok target
  pub writes : WritesHeld old new s h i (bits (place_word target))

-- the transaction when a word of that meaning was read: a handle holds what it refers to
abbrev pub with_read : TransactionState → ℕ → Option Word → TransactionState
with_read t h (Some (word.Stable at)) = with_handle t h (Some (Stable at))
with_read t h (Some (word.Volatile at)) = with_handle t h (Some (Volatile at))
with_read t h meant = t

-- A field of the object at a place was read, after the scan of its page where that is needed, and h2 holds what it refers to.
pub record GetsAt (old new : Memory) (s : ℕ) (p : Place) (i h2 : ℕ) : Type 0 where
  pub transaction : TransactionState
  pub was : own old s ≡ Some transaction
  pub left : let meant = meaning (slice_index (fields_at (words_behind old (Ok p) i) transaction.area p) i) in
      LeavesOwn old new s (place_barrier old p i) (with_read transaction h2 meant) (with_lock old.locks transaction Shared p)

-- A field of the object that handle h holds was read so.
pub record Gets (old new : Memory) (s h i h2 : ℕ) : Type 0 where
  pub place : Place
  pub held : held_place (own old s) h ≡ Ok place
  pub gets : GetsAt old new s place i h2

-- The transaction was sealed: what it promotes takes words of the current space, and its locks are free.
pub record Seals (old new : Memory) (s : ℕ) : Type 0 where
  pub transaction : TransactionState
  pub was : own old s ≡ Some transaction
  pub left : Leaves old new (sealing_records old transaction) (with_ended old.table s) (without old.locks transaction.number) (with_taken old.spaces (sealing_need old transaction)) old.collection (old.sealed + 1)

-- The transaction was aborted: what it wrote is taken back, and its locks are free.
pub record Aborts (old new : Memory) (s : ℕ) : Type 0 where
  pub transaction : TransactionState
  pub was : own old s ≡ Some transaction
  pub left : Leaves old new (abort_records transaction.number transaction.undo) (with_ended old.table s) (without old.locks transaction.number) old.spaces old.collection old.sealed

-- A collection began with the copies of these roots: the spaces have changed their roles, and what transactions keep and lock has gone along.
pub record Flips (old new : Memory) (roots : List ℕ) : Type 0 where
  pub idle : old.collection ≡ None
  pub named : AreRoots old.table old.locks roots
  pub moved : HaveGoneAlong (pairs_of (flip_copies old roots)) old.table new.table
  pub left : let copies = flip_copies old roots in
      Leaves old new (flip_records old roots) new.table (rekeyed (pairs_of copies) old.locks) (with_copied (flipped old.spaces) (copied_size copies))
      (Some (with_copies (begun old.spaces.used) (moved_objects copies))) old.sealed

-- The next page was scanned, or the collection has ended.
pub record Scans (old new : Memory) (next : Option ℕ) : Type 0 where
  pub next_page : IsNextPage old.collection next
  pub left : let records = scan_event_records old old.collection next in
      Leaves old new records old.table old.locks (spaces_behind old.spaces records) (collection_behind old.collection records) old.sealed
