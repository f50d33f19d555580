-- When what an open heap keeps in memory is what a core says.
use Rattle.std.specs.Prelude.{◌≡◌, ◌↔◌, ℕ, ◌+◌, ◌<◌, true, List, length, slice_index, map, Option, None, Some, IsFalse}
use Rattle.std.specs.FinSet as set
use Rattle.std.specs.List.{Contains}
use Rattle.std.specs.Option.{option_map}
use Rattle.gated_log.specs.LogState.{Keeps, log_place, log_room}
use Rattle.graph_model.specs.declared.id.Id.{Id}
use Rattle.graph_model.specs.Graph.{Graph}
use Rattle.graph_model.specs.History.{Account}
use Rattle.graph_model.specs.Locking.{Mode, Shared, Exclusive, locks_of}
use Rattle.graph_model.specs.Plain.{view}
use Rattle.graph_model.specs.Transaction.{View, Transaction, serial}
use Rattle.image_plan.specs.Plan.{log_offset}
use Rattle.log_machine.specs.declared.UndoEntry.{UndoEntry}
use Rattle.log_machine.specs.Machine.{State, spaces_of}
use Rattle.page_redo.specs.Pages.{pages_in}
use Rattle.page_store.specs.declared.store.PageStore.{PageStore}
use Rattle.page_store.specs.StoreState.{store_plan, stored_lsn, has_failed}
use Rattle.heap_spaces.specs.Collection.{Collection}
use Rattle.heap_spaces.specs.Spaces.{SpacesState}
use Rattle.object_locks.specs.declared.holding.Holding.{Holding}
use Rattle.object_locks.specs.declared.holding.Mode as table
use Rattle.object_locks.specs.declared.holding.Mode.TheVariants as locked
use Rattle.object_locks.specs.Holdings.{Holdings}
use Rattle.txn_table.specs.declared.place.Place.{Place}
use Rattle.txn_table.specs.declared.place.Place.TheVariants.{Stable, Volatile}
use Rattle.txn_table.specs.Table.{TableState, TransactionState, transaction_of}
use Rattle.graph_words.specs.Places.{Places, address_of, index_of}
use Rattle.heap_memory.specs.Memory.{Memory}
use Rattle.heap_model.specs.Core.{Core, Ground, ground, all_words, undo_with, area_in, present_lsn}

-- the place of an object by its address, if it has one, and by its index
abbrev pub standing_place : Option ℕ → ℕ → Place
standing_place (Some address) index = Stable address
standing_place None index = Volatile index

-- the place of an object of a graph
abbrev pub place_in : Places → Graph → Id → Place
place_in places g id = standing_place (address_of places id) (index_of g id)

-- what is kept of a transaction of that number that sees this and has made these writes
abbrev pub kept : Places → View → ℕ → List UndoEntry → TransactionState
kept places v t undo = record { number = t; handles = map (option_map (place_in places v.graph)) v.registers; undo = undo; area = area_in places v t }

-- what is kept of a session's transaction, where the heap is found so
abbrev pub kept_of : Ground → Graph → Account → Option Transaction → Option TransactionState
kept_of ground g0 a None = None
kept_of ground g0 a (Some t) = Some (kept ground.places (view g0 a t) t.number (undo_with ground.state t.number))

-- a mode of the table, as the model names it
abbrev pub mode_of : table.Mode → Mode
mode_of locked.Shared = Shared
mode_of locked.Exclusive = Exclusive

-- A lock of the table is one that the model knows: an active transaction of that number needs it for the object at that address.
pub record IsHeld (places : Places) (g0 : Graph) (a : Account) (h : Holding) : Type 0 where
  pub session : ℕ
  pub transaction : Transaction
  pub active : a.active session ≡ Some transaction
  pub number : transaction.number ≡ h.transaction
  pub id : Id
  pub place : address_of places id ≡ Some h.key.address
  pub lock : Contains (locks_of (serial g0 a.sealed) transaction) (id, mode_of h.mode)

-- The locks that are held are just these. Those on objects of a transaction's own area are not among them: no other can use these.
abbrev pub AreHeld : Holdings → Places → Graph → Account → Type 0
AreHeld locks places g0 a = (h : Holding) → (set.contains locks h ≡ true) ↔ IsHeld places g0 a h

-- Each page in memory has the LSN that these records give it, and is known to be stored with the one that it is stored with.
pub record ArePages (lsns : List ℕ) (store : PageStore) (pages log_bytes : ℕ) (present stored : ℕ → ℕ) : Type 0 where
  pub number : length lsns ≡ pages_in pages
  pub now : (p : ℕ) → p < pages_in pages → slice_index lsns p ≡ present p
  pub flushed : (p : ℕ) → p < pages_in pages → stored_lsn store p ≡ stored p
  pub plan : store_plan store ≡ record { pages = pages; log_bytes = log_bytes }
  pub unfailed : IsFalse (has_failed store)  -- no store of a page has failed

-- the pages in memory are a core's
abbrev pub PagesAgree : Memory → Core → Type 0
PagesAgree m c = ArePages m.lsns m.store c.pages c.room (present_lsn c) c.stored_lsns

-- The spaces, the collection, the transactions and the locks in memory are those of a history that gives this account, where the heap is found
-- so.
pub record AreSessions (current : SpacesState) (runs : Option Collection) (table : TableState) (held : Holdings) (count : ℕ) (ground : Ground) (g0 : Graph) (first : ℕ) (a : Account) : Type 0 where
  pub state : State
  pub reached : ground.state ≡ Some state
  pub spaces : current ≡ spaces_of state
  pub collection : runs ≡ state.collection
  pub transactions : (s : ℕ) → transaction_of table s ≡ kept_of ground g0 a (a.active s)
  pub locks : AreHeld held ground.places g0 a
  pub next : table.next ≡ first + a.begun
  pub sealed : count ≡ length a.sealed

-- those in memory are a core's
abbrev pub SessionsAgree : Memory → Account → Core → Type 0
SessionsAgree m a c = AreSessions m.spaces m.collection m.table m.locks m.sealed (ground c) c.g0 c.first a

-- What is kept in memory is that of a core whose history gives this account.
pub record IsMemory (m : Memory) (a : Account) (c : Core) : Type 0 where
  pub log : Keeps m.log c.batches c.pending
  pub place : log_place m.log ≡ log_offset
  pub room : log_room m.log ≡ c.room
  pub words : m.words ≡ all_words c
  pub pages : PagesAgree m c
  pub sessions : SessionsAgree m a c
