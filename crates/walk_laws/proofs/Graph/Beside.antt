-- Heaps within a collection, and without one.
use Rattle.std.proofs.Common.{◌≡◌, ℕ, ◌+◌, List, [], Option, None, Some, refl, ap, subst, arith}
use Rattle.std.specs.Prelude.{MatchOption}
use Rattle.heap_spaces.specs.Collection.{Collection, owed_by}
use Rattle.graph_model.specs.Graph.{Graph}
use Rattle.object_layout.specs.CollectionWalk.{IsWalkedBeside}
use Rattle.log_machine.specs.declared.UndoEntry.{UndoEntry}
use Rattle.log_machine.specs.Machine.{State, owed, taken_back}
use Rattle.graph_words.specs.Places.{Places}
use Rattle.graph_words.specs.Stands.{StandsCommitted}
use Rattle.graph_words.proofs.Stands.Seen.{stands_walked}
use Rattle.collection_words.specs.Completed.{StandsCompleted, completed}
use Rattle.collection_words.specs.LaidOut.{IsFromSpace, IsLaidOut}
use Rattle.collection_words.proofs.Laid.Completed.{completed_none, places_none}
use Rattle.collection_words.proofs.Laid.Sources.{collecting}
use Rattle.walk_laws.specs.Heap.{AreSpaces, HoldsGraph, IsStateWalked, from_space_in}
use Rattle.walk_laws.proofs.Walk.Walked.{committed_plain, laid_walked}

-- without a collection a graph that stands in the completed words stands in the words
pub stands_none : (s : State) (places : Places) (words : List ℕ) (g : Graph) (us : List UndoEntry) → s.collection ≡ None → StandsCompleted 0 0 places [] g us words s
    → StandsCommitted places g (taken_back us words) s.base s.used
stands_none s places words g us none stands =
    let none_owed : s.used + owed s ≡ s.used = omega (arith, ap owed_by none) in
    subst (λ (n : ℕ). StandsCommitted places g (taken_back us words) s.base n) none_owed
    (subst (λ (ws : List ℕ). StandsCommitted places g (taken_back us ws) s.base (s.used + owed s)) (completed_none s places [] words none)
    (subst (λ (ps : Places). StandsCommitted ps g (taken_back us (completed s places [] words)) s.base (s.used + owed s)) (places_none s places words) stands))

-- nothing remains then
pub none_left : (s : State) (places remaining : Places) (words : List ℕ) → s.collection ≡ None → IsLaidOut s places remaining words → remaining ≡ []
none_left s places remaining words none laid = subst (λ o. MatchOption o (remaining ≡ []) (λ k. IsFromSpace s k places remaining words)) none laid.from

-- The walk of a heap passes.
pub heap_walked : (s : State) (places remaining : Places) (words : List ℕ) (g : Graph) → AreSpaces s words → HoldsGraph s places remaining words g → IsStateWalked s words
heap_walked s places remaining words g spaces holds = each s.collection refl
  where
    each : (o : Option Collection) → s.collection ≡ o → IsWalkedBeside words s.base s.used (from_space_in s o)
    each None none =
        let left = none_left s places remaining words none holds.laid in
        stands_walked (stands_none s places words g [] none (subst (λ (ps : Places). StandsCompleted 0 0 places ps g [] words s) left holds.stands))
    each (Some k) run =
        let is = collecting k run spaces.spaced spaces.long holds.laid in laid_walked is (committed_plain g is holds.stands)
