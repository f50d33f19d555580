-- When records and words encode a graph and a number of commits, and what an active transaction has at hand.
use Rattle.std.specs.Prelude.{◌≡◌, ℕ, ◌+◌, ◌<◌, ◌≤◌, IsTrue, Bool, List, Option, Some, MatchOption}
use Rattle.std.specs.List.{AllByRecursion}
use Rattle.graph_model.specs.declared.id.Id.{Id}
use Rattle.graph_model.specs.Graph.{Graph}
use Rattle.graph_model.specs.Transaction.{Transaction}
use Rattle.log_records.specs.declared.Record.{Record}
use Rattle.log_records.specs.Record.{IsRecord}
use Rattle.log_machine.specs.Machine.{State, owed, all_taken_back, after_all}
use Rattle.collection_words.specs.Completed.{completed, completed_places}
use Rattle.collection_words.specs.LaidOut.{AreHeapWords}
use Rattle.seen_laws.specs.Heap.{AreAllBacked}
use Rattle.graph_words.specs.Places.{Places, IsAtHand, AreOld}
use Rattle.graph_words.specs.Stands.{StandsCommitted}
use Rattle.walk_laws.specs.Heap.{TellsBirths}
use Rattle.heap_model.specs.Bits.{AreOf64Bits}

-- Records of a log that begins with the state `from`, and the words after them, encode a graph: k transactions are committed and have left
-- it. Its objects stand at `places` in the current space, or remain in the from-space; and it stands in the completed words without the
-- writes of transactions that have not ended.
pub record IsTold (from : State) (born : Bool) (places remaining : Places) (g : Graph) (k : ℕ) (records : List Record) (words : List ℕ) (state : State) : Type 0 where
  pub good : AllByRecursion IsRecord records  -- each of them has a spelling
  pub reached : after_all from records ≡ Some state  -- each of them follows those before it
  pub count : state.commits ≡ k
  pub heap : AreHeapWords state places remaining words
  pub fit : AreOf64Bits words
  pub backed : AreAllBacked state places words
  pub stands : StandsCommitted (completed_places state places remaining words) g (all_taken_back state (completed state places remaining words)) state.base (state.used + owed state)
  pub old : AreOld state.next (completed_places state places remaining words)
  pub births : IsTrue born → TellsBirths state places remaining words

-- a handle holds an object at hand, or nothing
abbrev pub HoldsAtHand : Places → ℕ → ℕ → Option Id → Type 0
HoldsAtHand places t made o = MatchOption o (Unit {0}) (λ id. IsAtHand places t made id)

-- a transaction's number is below the next one
abbrev pub IsNumbered : ℕ → Option Transaction → Type 0
IsNumbered next t = MatchOption t (Unit {0}) (λ u. (1 ≤ u.number) × (u.number < next))
