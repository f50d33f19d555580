-- What an opening of a legal image does: it takes back the writes of transactions that have not ended, in one more batch.
use Rattle.std.specs.Prelude.{◌≡◌, ◌⊎◌, ℕ, Bool, not, IsTrue, List, [], Option, None, Some, filter, fold}
use Rattle.graph_model.specs.Graph.{Graph}
use Rattle.log_records.specs.declared.Record.{Record}
use Rattle.gated_log.specs.Log.{with_batch}
use Rattle.log_machine.specs.Machine.{State, put_record, number_of, next_with, rollback}
use Rattle.page_redo.specs.Origin.{commits_in}
use Rattle.page_redo.specs.Pages.{lsn_of}
use Rattle.graph_words.specs.Places.{Places, AreOld}
use Rattle.collection_words.specs.Completed.{in_other_space}
use Rattle.walk_laws.specs.Heap.{HoldsWhole, TellsBirths}
use Rattle.heap_model.specs.Core.{Core, force_calls}
use Rattle.heap_model.specs.Image.{StoredHeap, state_in, redone_words, words_of, IsShapedLog, Holds}

abbrev pub rollback_in : Option State → List Record
rollback_in None = []
rollback_in (Some state) = rollback state

-- the records that take back what its log leaves of transactions that have not ended
abbrev pub rollback_of : StoredHeap → List Record
rollback_of stored = rollback_in (state_in stored)

-- the stored heap after an opening: these records are one more batch
abbrev pub rolled_back : StoredHeap → StoredHeap
rolled_back stored = record stored { batches = with_batch stored.batches (rollback_of stored) }

-- the words after an opening
abbrev pub rolled_words : StoredHeap → List ℕ
rolled_words stored = fold put_record (redone_words stored) (rollback_of stored)

-- the writes and syncs of an opening
abbrev pub opening_calls : StoredHeap → ℕ
opening_calls stored = force_calls (rollback_of stored)

abbrev pub next_in : Option State → ℕ
next_in None = 0
next_in (Some state) = state.next

-- the number of the first transaction after an opening
abbrev pub next_of : StoredHeap → ℕ
next_of stored = next_in (state_in stored)

-- how many transactions are committed in what the log says
abbrev pub commits_of : StoredHeap → ℕ
commits_of stored = commits_in (state_in stored)

-- the greater of a first number and one more than the greatest among these records
abbrev pub next_behind : ℕ → List Record → ℕ
next_behind first records = fold (λ n rec. next_with n (number_of rec)) first records

-- Objects of both spaces, each at its own address, and where the current space is in such a state.

-- those that stand in the current space
abbrev pub current_in : Option State → Places → Places
current_in None places = places
current_in (Some state) places = filter (λ p. not (in_other_space state p.1)) places

-- those that remain in the space that a collection empties
abbrev pub remaining_in : Option State → Places → Places
remaining_in None places = []
remaining_in (Some state) places = filter (λ p. in_other_space state p.1) places

-- The core of a heap just opened that was stored so, in frames with these open gates, where this graph stands in the words at these places.
abbrev pub opened : StoredHeap → (ℕ → ℕ) → Bool → Places → Graph → Core
opened stored gates born places g =
    record {
      pages = stored.super.pages;
      room = stored.super.log_bytes;
      first_number = stored.super.first;
      first = next_of stored;
      g0 = g;
      born = born;
      before = commits_of stored;
      history = [];
      truncated = [];
      batches = (rolled_back stored).batches;
      words = rolled_words stored;
      pending = [];
      stored_lsns = lsn_of stored.pages;
      gates = gates;
      places = current_in (state_in stored) places;
      remaining = remaining_in (state_in stored) places;
    }

-- A graph stands in what a shaped log leaves, and each of its objects at one of these places, in the current space or in the one that a
-- collection empties; no name of theirs is one that a transaction to come can give. Where births give the names, `born` says so.
pub record IsFound (stored : StoredHeap) (shaped : IsShapedLog stored) (born : Bool) (places : Places) (g : Graph) : Type 0 where
  pub whole : HoldsWhole shaped.state (current_in (Some shaped.state) places) (remaining_in (Some shaped.state) places) (words_of stored) g
  pub old : AreOld shaped.state.next places
  pub births : IsTrue born → TellsBirths shaped.state (current_in (Some shaped.state) places) (remaining_in (Some shaped.state) places) (words_of stored)

-- What an opening may have made of a stored heap: it is as it was, or it is rolled back.
abbrev pub IsLater : StoredHeap → StoredHeap → Type 0
IsLater stored later = (later ≡ stored) ⊎ (later ≡ rolled_back stored)

-- An opening of a stored heap leaves an image of it, or of what it is after the opening.
abbrev pub IsLeftByOpening : StoredHeap → List ℕ → Type 0
IsLeftByOpening stored image = (later : StoredHeap) × IsLater stored later × Holds later image
