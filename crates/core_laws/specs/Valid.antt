-- What holds of every core that the events of sessions side by side reach from an opening.
use Rattle.std.specs.Prelude.{◌≡◌, ◌⊎◌, ℕ, ◌+◌, ◌<◌, ◌≤◌, Bool, List, length, take, Option, None, Some}
use Rattle.std.specs.List.{AllByRecursion, Contains}
use Rattle.graph_model.specs.declared.id.Id.{Id}
use Rattle.graph_model.specs.declared.reply.Entry.{Entry}
use Rattle.graph_model.specs.Graph.{Graph}
use Rattle.graph_model.specs.ClosedGraph.{IsUnused}
use Rattle.graph_model.specs.Transaction.{View, Transaction, serial}
use Rattle.graph_model.specs.History.{Account, AreInSessions, account}
use Rattle.graph_model.specs.Locking.{Exclusive, Lock, locks_of}
use Rattle.graph_model.specs.Plain.{view, no_number}
use Rattle.commit_order.specs.SerialOrder.{EachEntry, EndsWithFailure, IsTwoPhase, HasPlainReplies, numbers_begun}
use Rattle.log_records.specs.declared.Record.{Record}
use Rattle.log_machine.specs.declared.UndoEntry.{UndoEntry}
use Rattle.log_machine.specs.Apart.{others_taken_back}
use Rattle.log_machine.specs.Machine.{State, owed, undo_of, reserve}
use Rattle.log_machine.specs.Entries as maps
use Rattle.gated_log.specs.Log.{records_of, batches_bytes}
use Rattle.graph_words.specs.Places.{Places, address_of, made_by}
use Rattle.graph_words.specs.Area.{HasMade}
use Rattle.graph_words.specs.Stands.{Stands, AreWritten, AreOfFields}
use Rattle.collection_words.specs.Completed.{completed, completed_places}
use Rattle.heap_model.specs.Core.{Core, log_start, all_records, all_words, used, reserved}
use Rattle.heap_model.specs.CoreTold.{IsTold, HoldsAtHand, IsNumbered}

-- A write of a field of an object that is locked exclusively.
pub record IsLockedWrite (places : Places) (locks : List Lock) (u : UndoEntry) : Type 0 where
  pub id : Id
  pub object : address_of places id ≡ Some u.object
  pub lock : Contains locks (id, Exclusive)

-- each of these writes is such
abbrev pub AreLockedWrites : Places → List Lock → List UndoEntry → Type 0
AreLockedWrites places locks undo = AllByRecursion (IsLockedWrite places locks) undo

-- none of the objects that these locks hold is in these places
abbrev pub AreUnlocked : Places → List Lock → Type 0
AreUnlocked places locks = AllByRecursion (λ (lock : Lock). address_of places lock.0 ≡ None) locks

-- What a transaction with these locks sees stands in its area, and in the completed words when the writes of all others are taken back. It
-- made no object that remains and has locked none, and what it holds, wrote and made leads to current objects and to its own.
pub record IsWriting (places remaining : Places) (v : View) (t : ℕ) (locks : List Lock) (words : List ℕ) (state : State) : Type 0 where
  pub stands : Stands t v.made (completed_places state places remaining words) v.graph (others_taken_back state t (completed state places remaining words)) state.base (state.used + owed state)
  pub made : HasMade places v.graph t v.made
  pub apart : (k : ℕ) → address_of remaining (made_by t k) ≡ None
  pub written : AreWritten (completed_places state places remaining words) v.graph (undo_of state t)
  pub fields : AreOfFields places v.graph (undo_of state t)
  pub locked : AreLockedWrites places locks (undo_of state t)
  pub unlocked : AreUnlocked remaining locks
  pub handles : AllByRecursion (HoldsAtHand places t v.made) v.registers

-- so does what a session's transaction sees, if it has one
abbrev pub IsWriter : Places → Places → Graph → Account → Option Transaction → List ℕ → State → Type 0
IsWriter places remaining g0 a None words state = Unit {0}
IsWriter places remaining g0 a (Some t) words state = IsWriting places remaining (view g0 a t) t.number (locks_of (serial g0 a.sealed) t) words state

-- A transaction of that number is active.
pub record IsActive (a : Account) (n : ℕ) : Type 0 where
  pub session : ℕ
  pub transaction : Transaction
  pub active : a.active session ≡ Some transaction
  pub number : transaction.number ≡ n

-- How many pages a core has, and with which number its transactions began, is in range.
pub record IsInRange (pages first : ℕ) : Type 0 where
  pub some_pages : 1 ≤ pages
  pub few_pages : pages ≤ 16384
  pub some_first : 1 ≤ first

-- The batches on the disk, with the words after them, encode the first of these commits, with all that were acknowledged among them.
pub record IsDurable (from : State) (born : Bool) (g0 : Graph) (before first room : ℕ) (batches : List (List Record)) (words : List ℕ) (sealed : List Transaction) (acknowledged : ℕ) : Type 0 where
  pub commits : ℕ  -- how many commits since the opening are on the disk
  pub sealed_first : commits ≤ length sealed
  pub acknowledged_last : acknowledged ≤ commits  -- what was answered `durable` is
  pub state : State
  pub places : Places
  pub remaining : Places
  pub told : IsTold from born places remaining (serial g0 (take commits sealed)) (before + commits) (records_of batches) words state
  pub first_known : first ≤ state.next  -- an opening of it continues with no number below the first of this one
  pub has_room : length (batches_bytes batches) + 1 + reserve state ≤ room  -- and has room to take back what else it holds

-- a core's disk agrees in this way with what its history says
abbrev pub DiskAgrees : Account → Core → Type 0
DiskAgrees a c = IsDurable (log_start c) c.born c.g0 c.before c.first c.room c.batches c.words a.sealed a.acknowledged

-- A core agrees with what its history says.
pub record Agrees (a : Account) (c : Core) : Type 0 where
  pub unfailed : a.failed ≡ None  -- the disk has not failed
  pub certain : a.in_doubt ≡ None  -- and it cut no seal short
  pub in_sessions : AreInSessions a
  pub in_range : IsInRange c.pages c.first
  pub next_fits : c.first + a.begun ≤ no_number
  pub numbered : (s : ℕ) → IsNumbered (c.first + a.begun) (a.active s)
  pub disk : DiskAgrees a c
  pub behind : State
  pub told : IsTold (log_start c) c.born c.places c.remaining (serial c.g0 a.sealed) (c.before + length a.sealed) (all_records c) (all_words c) behind  -- all records encode all that was sealed
  pub next_known : behind.next ≤ c.first + a.begun  -- no transaction to come has written yet
  pub losers : maps.EachKeyed (λ q us. IsActive a q) behind.undo  -- only active transactions have writes that may be taken back
  pub writers : (s : ℕ) → IsWriter c.places c.remaining c.g0 a (a.active s) (all_words c) behind  -- and each sees what it wrote
  pub room : used c + reserved (undo_of behind) a ≤ c.room  -- the log has room for the ends of all active transactions

-- A valid core agrees with its own history.
abbrev pub IsValid : Core → Type 0
IsValid c = Agrees (account c.history) c

-- The disk stopped or failed in an event, and all but the history is as it was before.
pub record HasFailed (a : Account) (c : Core) : Type 0 where
  pub entry : ℕ
  pub failed : a.failed ≡ Some entry
  pub before : Agrees (record a { failed = None; in_doubt = None }) c

-- A core is valid, or the disk stopped or failed in an event.
abbrev pub IsSound : Core → Type 0
IsSound c = IsValid c ⊎ HasFailed (account c.history) c

-- A history since an opening with this graph, whose first transaction since then has the number `first`: its transactions ran under strict
-- two-phase locking and had plain replies, each with a number of its own, until the disk failed.
pub record RunsLocked (g0 : Graph) (first : ℕ) (history : List Entry) : Type 0 where
  pub plain : HasPlainReplies g0 history
  pub two_phase : IsTwoPhase g0 history
  pub fails : EachEntry EndsWithFailure history
  pub begun_below : (n : ℕ) → Contains (numbers_begun history) n → n < first + (account history).begun
  pub unused : (n : ℕ) → first ≤ n → IsUnused g0 n

-- A core that is reached is sound, and its transactions ran under strict two-phase locking.
pub record IsReached (c : Core) : Type 0 where
  pub sound : IsSound c
  pub locked : RunsLocked c.g0 c.first c.history
