-- A state with other writes that may be taken back, other commits and another next number: what its spaces hold is the same.
use Rattle.std.proofs.Common.{◌≡◌, ℕ, ◌+◌, List, [], ◌++◌, Option, None, Some, refl, sym, subst}
use Rattle.std.specs.FinMap.{FinMap}
use Rattle.std.specs.Ordering.{nat_cmp}
use Rattle.std.specs.Prelude.{MatchOption}
use Rattle.heap_spaces.specs.Collection.{Collection}
use Rattle.graph_model.specs.Graph.{Graph}
use Rattle.log_machine.specs.Machine.{State, owed}
use Rattle.log_machine.specs.declared.UndoEntry.{UndoEntry}
use Rattle.graph_words.specs.Places.{Places}
use Rattle.graph_words.specs.Stands.{StandsCommitted}
use Rattle.collection_words.specs.Completed.{completed, completed_in, future}
use Rattle.collection_words.specs.LaidOut.{IsFromSpace, IsLaidOut}
use Rattle.walk_laws.specs.Births.{HasOriginals}
use Rattle.walk_laws.specs.Heap.{HoldsGraph, TellsBirths, from_space, from_space_in}

-- the state with these
abbrev pub with_lists : State → FinMap nat_cmp (List UndoEntry) → ℕ → ℕ → State
with_lists s undo commits next = record s { undo = undo; commits = commits; next = next }

module _ (s : State) (undo : FinMap nat_cmp (List UndoEntry)) (commits next : ℕ) where
  abbrev n : State
  n = with_lists s undo commits next

  from_lists : (places remaining : Places) (words : List ℕ) (o : Option Collection) → MatchOption o (remaining ≡ []) (λ k. IsFromSpace s k places remaining words)
      → MatchOption o (remaining ≡ []) (λ k. IsFromSpace n k places remaining words)
  from_lists places remaining words None left = left
  from_lists places remaining words (Some k) from = record {
    starts = from.starts;
    chain = from.chain;
    forwarded = from.forwarded;
    left = from.left;
    sum = from.sum;
    grays = from.grays;
    back = from.back;
    inside = from.inside;
  }

  -- words are laid out
  pub laid_lists : (places remaining : Places) (words : List ℕ) → IsLaidOut s places remaining words → IsLaidOut n places remaining words
  laid_lists places remaining words laid = record { filled = laid.filled; here = laid.here; from = from_lists places remaining words s.collection laid.from }

  completed_by : (places remaining : Places) (words : List ℕ) (o : Option Collection) → completed_in n places remaining words o ≡ completed_in s places remaining words o
  completed_by places remaining words None = refl
  completed_by places remaining words (Some k) = refl

  -- completed
  pub completed_lists : (places remaining : Places) (words : List ℕ) → completed n places remaining words ≡ completed s places remaining words
  completed_lists places remaining words = completed_by places remaining words s.collection

  -- and hold a graph as they did
  pub holds_lists : (places remaining : Places) (words : List ℕ) (g : Graph) → HoldsGraph s places remaining words g → HoldsGraph n places remaining words g
  holds_lists places remaining words g holds = record {
    laid = laid_lists places remaining words holds.laid;
    stands = subst (λ (ws : List ℕ). StandsCommitted (places ++ future s words remaining) g ws s.base (s.used + owed s)) (sym (completed_lists places remaining words)) holds.stands;
  }

  from_by : (o : Option Collection) → from_space_in n o ≡ from_space_in s o
  from_by None = refl
  from_by (Some k) = refl

  -- the space that a collection empties is the same
  pub from_space_lists : from_space n ≡ from_space s
  from_space_lists = from_by s.collection

  originals_by : (words : List ℕ) (o : Option Collection) → HasOriginals s words o → HasOriginals n words o
  originals_by words None has = tt
  originals_by words (Some k) has = has

  -- births are known
  pub tells_lists : (places remaining : Places) (words : List ℕ) → TellsBirths s places remaining words → TellsBirths n places remaining words
  tells_lists places remaining words tells = record { names = tells.names; originals = originals_by words s.collection tells.originals }
