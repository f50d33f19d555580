-- A heap after writes that are taken back.
use Rattle.std.proofs.Common.{◌≡◌, ℕ, ◌+◌, List, [], ◌++◌, Option, None, Some, refl, sym, ◌∙◌, subst}
use Rattle.std.specs.Prelude.{MatchOption}
use Rattle.heap_spaces.specs.Collection.{Collection}
use Rattle.graph_model.specs.Graph.{Graph}
use Rattle.log_machine.specs.declared.UndoEntry.{UndoEntry}
use Rattle.log_machine.specs.Machine.{State, owed, taken_back}
use Rattle.log_machine.proofs.WordsLaws.{length-taken_back}
use Rattle.graph_words.specs.Places.{Places, addresses}
use Rattle.graph_words.specs.Stands.{Stands, StandsCommitted}
use Rattle.graph_words.proofs.Stands.Seen.{stands_filled, stands_inside}
use Rattle.collection_words.specs.Completed.{StandsCompleted, completed, future}
use Rattle.collection_words.specs.LaidOut.{IsFromSpace, IsLaidOut}
use Rattle.collection_words.specs.Writes.{AreBacked}
use Rattle.collection_words.proofs.Laid.Sources.{collecting}
use Rattle.collection_words.proofs.Laid.TakenBack.{completed_taken_back}
use Rattle.walk_laws.specs.Heap.{AreSpaces, HoldsGraph}
use Rattle.walk_laws.proofs.Graph.Beside.{none_left, stands_none}
use Rattle.walk_laws.proofs.Walk.Fields.{each_inside, inside_here}
use Rattle.walk_laws.proofs.Graph.Held.{stands_completed}

-- the words stay those of both spaces
pub spaces_back : (s : State) (words : List ℕ) (us : List UndoEntry) → AreSpaces s words → AreSpaces s (taken_back us words)
spaces_back s words us spaces = record { spaced = spaces.spaced; long = length-taken_back us words ∙ spaces.long; small = spaces.small }

-- words in which a committed graph stands are laid out
pub committed_laid : (s : State) (places : Places) (words : List ℕ) (g : Graph) → s.collection ≡ None → StandsCommitted places g words s.base s.used → IsLaidOut s places [] words
committed_laid s places words g none stands =
    let nothing : Places = [] in
    record {
      filled = stands_filled stands;
      here = λ at has n i object below black. inside_here (addresses places) _ (each_inside words (addresses places) at (stands_inside stands at has) n i object below);
      from = subst (λ o. MatchOption o (nothing ≡ nothing) (λ k. IsFromSpace s k places nothing words)) (sym none) refl;
    }

-- A graph that stands where writes are taken back stands in the words after them.
pub held_back : (s : State) (places remaining : Places) (words : List ℕ) (us : List UndoEntry) (g : Graph) → AreSpaces s words → IsLaidOut s places remaining words → AreBacked places words us
    → StandsCompleted 0 0 places remaining g us words s → (o : Option Collection) → s.collection ≡ o → HoldsGraph s places remaining (taken_back us words) g
held_back s places remaining words us g spaces laid backed stands None none =
    let left = none_left s places remaining words none laid in
    let back = taken_back us words in
    let here = stands_none s places words g us none (subst (λ (ps : Places). StandsCompleted 0 0 places ps g us words s) left stands) in
    subst (λ (ps : Places). HoldsGraph s places ps back g) (sym left)
    (record { laid = committed_laid s places back g none here; stands = stands_completed s places back g none here })
held_back s places remaining words us g spaces laid backed stands (Some k) run =
    let told = completed_taken_back us (collecting k run spaces.spaced spaces.long laid) backed in
    let base = s.base in
    let used = s.used + owed s in
    record {
      laid = told.is.laid;
      stands = subst (λ (ps : Places). Stands 0 0 (places ++ ps) g (completed s places remaining (taken_back us words)) base used) (sym told.future)
          (subst (λ (ws : List ℕ). Stands 0 0 (places ++ future s words remaining) g ws base used) (sym told.same) stands);
    }
