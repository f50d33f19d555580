-- What records encode where no collection is under way: the completed words are the words, and objects stand there where they do.
use Rattle.std.proofs.Common.{◌≡◌, ℕ, ◌+◌, List, ◌++◌, sym, ap, ◌∙◌, subst, arith}
use Rattle.std.proofs.lemmas.List.{append-nil}
use Rattle.log_machine.specs.Machine.{State, all_taken_back, losing, owed, taken_back}
use Rattle.graph_words.specs.Places.{Places}
use Rattle.graph_words.specs.Stands.{AreNamedByBirth}
use Rattle.collection_words.specs.Completed.{completed, completed_places}
use Rattle.collection_words.proofs.Heap.Cases.{HasNone, IsPlain}
use Rattle.collection_words.proofs.Laid.TakenBack.{each_taken_back-list}
use Rattle.collection_words.specs.LaidOut.{AreHeapWords}
use Rattle.walk_laws.specs.Births.{HasOriginals}
use Rattle.walk_laws.specs.Heap.{TellsBirths}
use Rattle.seen_laws.specs.Heap.{AreAllBacked}
use Rattle.seen_laws.proofs.Births.{births_kept}
use Rattle.seen_laws.proofs.States.{backed_all, writes_of_all}

-- what holds of the completed words holds of the words
pub as_plain : {s : State} {places remaining : Places} {words : List ℕ} (P : Places → List ℕ → ℕ → Type 0) → IsPlain s places remaining words
    → P (completed_places s places remaining words) (completed s places remaining words) (s.used + owed s) → P places words s.used
as_plain {s} {places} {remaining} {words} P is holds =
    let size : s.used + owed s ≡ s.used = omega (arith, is.owes) in
    subst (λ (n : ℕ). P places words n) size
    (subst (λ (ws : List ℕ). P places ws (s.used + owed s)) is.words_are
    (subst (λ (ps : Places). P ps (completed s places remaining words) (s.used + owed s)) is.places_are holds))

-- and the other way round
pub of_plain : {s : State} {places remaining : Places} {words : List ℕ} (P : Places → List ℕ → ℕ → Type 0) → IsPlain s places remaining words
    → P places words s.used → P (completed_places s places remaining words) (completed s places remaining words) (s.used + owed s)
of_plain {s} {places} {remaining} {words} P is holds =
    let size : s.used ≡ s.used + owed s = omega (arith, is.owes) in
    subst (λ (ps : Places). P ps (completed s places remaining words) (s.used + owed s)) (sym is.places_are)
    (subst (λ (ws : List ℕ). P places ws (s.used + owed s)) (sym is.words_are)
    (subst (λ (n : ℕ). P places words n) size holds))

-- births that name the objects in the words without what was written name them in the words
pub plain_tells : (state : State) (places remaining : Places) (words : List ℕ) → AreHeapWords state places remaining words → AreAllBacked state places words → HasNone state remaining
    → AreNamedByBirth places (all_taken_back state words) → TellsBirths state places remaining words
plain_tells state places remaining words heap backed none names =
    let back = writes_of_all (losing state) in
    let all : places ++ remaining ≡ places = ap (λ (ps : Places). places ++ ps) none.left ∙ append-nil places in
    record {
      names = (births_kept back (record { spaced = heap.spaced; long = heap.long; laid = heap.laid }) (backed_all state places words backed)).0
          (subst (λ (ps : Places). AreNamedByBirth ps (taken_back back words)) (sym all)
          (subst (λ (ws : List ℕ). AreNamedByBirth places ws) (each_taken_back-list (losing state) words) names));
      originals = subst (HasOriginals state words) (sym none.none) tt;
    }

-- and the other way round
pub plain_names : (state : State) (places remaining : Places) (words : List ℕ) → AreHeapWords state places remaining words → AreAllBacked state places words → HasNone state remaining
    → TellsBirths state places remaining words → AreNamedByBirth places (all_taken_back state words)
plain_names state places remaining words heap backed none tells =
    let back = writes_of_all (losing state) in
    let all : places ++ remaining ≡ places = ap (λ (ps : Places). places ++ ps) none.left ∙ append-nil places in
    subst (λ (ps : Places). AreNamedByBirth ps (all_taken_back state words)) all
    (subst (λ (ws : List ℕ). AreNamedByBirth (places ++ remaining) ws) (sym (each_taken_back-list (losing state) words))
    ((births_kept back (record { spaced = heap.spaced; long = heap.long; laid = heap.laid }) (backed_all state places words backed)).1 tells.names))
