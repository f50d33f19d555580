-- The graph of a heap is seen in its words as they stand without some writes, whether a collection runs or none.
use Rattle.std.proofs.Common.{ℕ, ◌+◌, arith, inl, inr, List, [], ◌++◌, ◌≡◌, None, subst, ap, ◌∙◌}
use Rattle.std.proofs.lemmas.List.{append-nil}
use Rattle.graph_model.specs.Graph.{Graph}
use Rattle.graph_model.specs.declared.id.Id.{Id}
use Rattle.object_layout.specs.Layout.{IsSeenAs}
use Rattle.log_machine.specs.declared.UndoEntry.{UndoEntry}
use Rattle.log_machine.specs.Machine.{State, owed, taken_back}
use Rattle.heap_spaces.specs.Collection.{owed_by}
use Rattle.graph_words.specs.Places.{Places}
use Rattle.graph_words.specs.Stands.{Stands}
use Rattle.graph_words.proofs.Stands.Seen.{stands_seen_as}
use Rattle.collection_words.specs.Completed.{StandsCompleted, completed}
use Rattle.collection_words.specs.Writes.{AreBacked}
use Rattle.collection_words.proofs.Copy.Stands.{completed_own}
use Rattle.collection_words.proofs.Laid.Completed.{completed_none}
use Rattle.seen_laws.specs.Heap.{IsHeap}
use Rattle.seen_laws.proofs.Kept.{back, heap_cases}
use Rattle.seen_laws.proofs.Names.{AreNames}
use Rattle.seen_laws.proofs.Seen.{committed_seen}

-- A graph that stands in words without a collection stands in the used words.
pub plain_stands : (s : State) (places remaining : Places) (words : List ℕ) {t made : ℕ} {g : Graph} (us : List UndoEntry) → s.collection ≡ None → remaining ≡ [] → StandsCompleted t made places remaining g us words s
    → Stands t made places g (taken_back us words) s.base s.used
plain_stands s places remaining words {t} {made} {g} us none nothing stands =
    let stood : StandsCompleted t made places [] g us words s = subst (λ (ps : Places). StandsCompleted t made places ps g us words s) nothing stands in
    let used : s.used + owed s ≡ s.used = omega (arith, ap owed_by none) in
    subst (λ (m : ℕ). Stands t made places g (taken_back us words) s.base m) used
    (subst (λ (ws : List ℕ). Stands t made places g (taken_back us ws) s.base (s.used + owed s)) (completed_none s places [] words none)
    (subst (λ (ps : Places). Stands t made ps g (taken_back us (completed s places [] words)) s.base (s.used + owed s)) (append-nil places) stood))

-- So it is.
pub over_seen : {s : State} {places remaining : Places} {words : List ℕ} {g : Graph} (us : List UndoEntry) (name : ℕ → Id) → IsHeap s places remaining words → AreBacked places words us
    → StandsCompleted 0 0 places remaining g us words s → AreNames name (places ++ remaining) → IsSeenAs name (taken_back us words) s.base g
over_seen {s} {places} {remaining} {words} {g} us name heap backed stands names = elim (heap_cases heap) [
  | inl none ↦
      let all : places ++ remaining ≡ places = ap (λ (ps : Places). places ++ ps) none.1 ∙ append-nil places in
      stands_seen_as name (plain_stands s places remaining words us none.0 none.1 stands) (subst (AreNames name) all names)
  | inr run ↦
      let left = back us run.1 backed stands in
      committed_seen name (record { is = left.is; own = completed_own us run.1 stands; stands = left.stands }) names
]
