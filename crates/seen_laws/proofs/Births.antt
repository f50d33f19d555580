-- Births: each object has its birth in the words as they stand, and the same one where it stands in the completed words.
use Rattle.std.proofs.Common.{◌≡◌, ℕ, ◌+◌, inl, inr, List, [], ◌∷◌, ◌++◌, Some, sym, ap, ◌∙◌, subst}
use Rattle.std.specs.Prelude.{◌↔◌, Contains}
use Rattle.std.proofs.lemmas.List.{append-nil}
use Rattle.heap_spaces.specs.Collection.{Collection}
use Rattle.graph_model.specs.Graph.{Graph}
use Rattle.object_layout.specs.Layout.{IsSeen, birth_at, id_at, id_of}
use Rattle.object_layout.proofs.WalkLaws.{Contains-head, Contains-rest}
use Rattle.log_machine.specs.declared.UndoEntry.{UndoEntry}
use Rattle.log_machine.specs.Machine.{State, taken_back}
use Rattle.log_machine.proofs.ListLaws.{AllByRecursion-append, AllByRecursion-behind, AllByRecursion-front}
use Rattle.graph_model.specs.declared.id.Id.{Id}
use Rattle.graph_words.specs.Places.{AreOld, IsOld, Places, address_of, addresses}
use Rattle.graph_words.specs.Stands.{AreNamedByBirth}
use Rattle.graph_words.proofs.Area.Field.{birth_taken_back}
use Rattle.graph_words.proofs.Stands.Seen.{births_name}
use Rattle.collection_words.specs.Completed.{StandsCompleted, completed, future, moves_from, places_from, taken_at}
use Rattle.collection_words.specs.Writes.{AreBacked}
use Rattle.collection_words.proofs.Laid.Completed.{completed_none, move_made}
use Rattle.collection_words.proofs.Laid.TakenBack.{completed_taken_back}
use Rattle.collection_words.proofs.Laid.Sources.{IsCollecting, all_places, here_ends, source_object}
use Rattle.collection_words.proofs.Moves.Sources.{move_source}
use Rattle.seen_laws.specs.Heap.{IsHeap}
use Rattle.seen_laws.proofs.Kept.{backed_are_fields, birth_back, heap_cases}
use Rattle.seen_laws.proofs.Over.{over_seen}
use Rattle.seen_laws.proofs.Referred.{stored}

-- Where objects keep their births they keep their names.

named_there : (words others : List ℕ) (ps : Places) (to : ℕ) → ((at there : ℕ) → Contains (moves_from words (addresses ps) to) (at, there) → birth_at others there ≡ birth_at words at) → AreNamedByBirth ps words
    → AreNamedByBirth (places_from words ps to) others
named_there words others [] to same born = tt
named_there words others (p ∷ ps) to same born = (
  ap id_of (same p.1 to (Contains-head (p.1, to) (moves_from words (addresses ps) (to + taken_at words p.1)))) ∙ born.0,
  named_there words others ps (to + taken_at words p.1) (λ at there has. same at there (Contains-rest (p.1, to) (moves_from words (addresses ps) (to + taken_at words p.1)) (at, there) has)) born.1,
)

named_here : (words others : List ℕ) (ps : Places) (to : ℕ) → ((at there : ℕ) → Contains (moves_from words (addresses ps) to) (at, there) → birth_at others there ≡ birth_at words at)
    → AreNamedByBirth (places_from words ps to) others → AreNamedByBirth ps words
named_here words others [] to same born = tt
named_here words others (p ∷ ps) to same born = (
  ap id_of (sym (same p.1 to (Contains-head (p.1, to) (moves_from words (addresses ps) (to + taken_at words p.1))))) ∙ born.0,
  named_here words others ps (to + taken_at words p.1) (λ at there has. same at there (Contains-rest (p.1, to) (moves_from words (addresses ps) (to + taken_at words p.1)) (at, there) has)) born.1,
)

named_still : (words others : List ℕ) (ps : Places) → ((at : ℕ) → Contains (addresses ps) at → birth_at others at ≡ birth_at words at) → AreNamedByBirth ps words → AreNamedByBirth ps others
named_still words others [] same born = tt
named_still words others (p ∷ ps) same born = (
  ap id_of (same p.1 (Contains-head p.1 (addresses ps))) ∙ born.0,
  named_still words others ps (λ at has. same at (Contains-rest p.1 (addresses ps) at has)) born.1,
)

-- The completed words.

-- births give the names in the completed words exactly where they do so in the words
pub collecting_births : {s : State} {k : Collection} {places remaining : Places} {words : List ℕ} → IsCollecting s k places remaining words
    → AreNamedByBirth (places ++ future s words remaining) (completed s places remaining words) ↔ AreNamedByBirth (places ++ remaining) words
collecting_births {s} {places = places} {remaining = remaining} {words = words} is =
    let V = completed s places remaining words in
    let all = places ++ remaining in
    let same : (at there : ℕ) → Contains (moves_from words (addresses all) s.base) (at, there) → birth_at V there ≡ birth_at words at = λ at there move.
    let object = source_object is at (move_source words (addresses all) s.base at there move) in (move_made is at there object.0 move object.1).birth in (
      λ born. named_here words V all s.base same (subst (λ (ps : Places). AreNamedByBirth ps V) (all_places is.laid) born),
      λ born. subst (λ (ps : Places). AreNamedByBirth ps V) (sym (all_places is.laid)) (named_there words V all s.base same born),
    )

-- each object has its birth where it stands in the completed words
pub heap_birth : {s : State} {places remaining : Places} {words : List ℕ} → IsHeap s places remaining words → (id : Id) (at : ℕ) → address_of (places ++ remaining) id ≡ Some at
    → (to : ℕ) × (address_of (places ++ future s words remaining) id ≡ Some to) × (birth_at (completed s places remaining words) to ≡ birth_at words at)
heap_birth {s} {places} {remaining} {words} heap id at there = elim (heap_cases heap) [
  | inl none ↦
      let nothing : future s words remaining ≡ remaining = ap (λ (ps : Places). future s words ps) none.1 ∙ sym none.1 in (
        at,
        ap (λ (ps : Places). address_of (places ++ ps) id) nothing ∙ there,
        ap (λ (ws : List ℕ). birth_at ws at) (completed_none s places remaining words none.0),
      )
  | inr run ↦ let object = stored run.1 id at there in (object.to, object.there, object.made.birth)
]

-- Names of old transactions.

old_put : (next : ℕ) (words : List ℕ) (ps : Places) (to : ℕ) → AreOld next ps → AreOld next (places_from words ps to)
old_put next words [] to old = tt
old_put next words (p ∷ ps) to old = (old.0, old_put next words ps (to + taken_at words p.1) old.1)

put_old : (next : ℕ) (words : List ℕ) (ps : Places) (to : ℕ) → AreOld next (places_from words ps to) → AreOld next ps
put_old next words [] to old = tt
put_old next words (p ∷ ps) to old = (old.0, put_old next words ps (to + taken_at words p.1) old.1)

-- the names are old exactly where they are so in the completed words
pub completed_old : (next : ℕ) (s : State) (places remaining : Places) (words : List ℕ) → AreOld next (places ++ future s words remaining) ↔ AreOld next (places ++ remaining)
completed_old next s places remaining words =
    let P : Id × ℕ → Type 0 = λ p. IsOld next p.0 in
    let to = s.base + s.used in (
      λ old. AllByRecursion-append P places remaining (AllByRecursion-front P places (future s words remaining) old) (put_old next words remaining to (AllByRecursion-behind P places (future s words remaining) old)),
      λ old. AllByRecursion-append P places (future s words remaining) (AllByRecursion-front P places remaining old) (old_put next words remaining to (AllByRecursion-behind P places remaining old)),
    )

-- Writes that are taken back.

-- no birth is written
pub birth_kept : {s : State} {places remaining : Places} {words : List ℕ} (us : List UndoEntry) → IsHeap s places remaining words → AreBacked places words us → (at : ℕ) → Contains (addresses (places ++ remaining)) at
    → birth_at (taken_back us words) at ≡ birth_at words at
birth_kept {s} {places} {remaining} {words} us heap backed at has = elim (heap_cases heap) [
  | inl none ↦
      let all : places ++ remaining ≡ places = ap (λ (ps : Places). places ++ ps) none.1 ∙ append-nil places in
      birth_taken_back us words s.base (addresses places) (s.base + s.used) at (here_ends heap.laid) (backed_are_fields places words us backed)
      (subst (λ (ps : Places). Contains (addresses ps) at) all has)
  | inr run ↦ birth_back us run.1 backed at has
]

-- so births give the names exactly where they did
pub births_kept : {s : State} {places remaining : Places} {words : List ℕ} (us : List UndoEntry) → IsHeap s places remaining words → AreBacked places words us
    → AreNamedByBirth (places ++ remaining) (taken_back us words) ↔ AreNamedByBirth (places ++ remaining) words
births_kept {places = places} {remaining = remaining} {words = words} us heap backed = (
  λ born. named_still (taken_back us words) words (places ++ remaining) (λ at has. sym (birth_kept us heap backed at has)) born,
  λ born. named_still words (taken_back us words) (places ++ remaining) (birth_kept us heap backed) born,
)

-- Both.

-- births give the names in the completed words, when writes are taken back, exactly where they do so in the words as they stand
pub back_births : {s : State} {places remaining : Places} {words : List ℕ} (us : List UndoEntry) → IsHeap s places remaining words → AreBacked places words us
    → AreNamedByBirth (places ++ future s words remaining) (taken_back us (completed s places remaining words)) ↔ AreNamedByBirth (places ++ remaining) words
back_births {s} {places} {remaining} {words} us heap backed = elim (heap_cases heap) [
  | inl none ↦
      let there : AreNamedByBirth (places ++ future s words remaining) (taken_back us (completed s places remaining words)) ≡ AreNamedByBirth (places ++ remaining) (taken_back us words) =
      ap (λ (ws : List ℕ). AreNamedByBirth (places ++ future s words remaining) (taken_back us ws)) (completed_none s places remaining words none.0)
      ∙ ap (λ (ps : Places). AreNamedByBirth (places ++ future s words ps) (taken_back us words)) none.1
      ∙ ap (λ (ps : Places). AreNamedByBirth (places ++ ps) (taken_back us words)) (sym none.1) in
      let kept = births_kept us heap backed in (λ born. kept.0 (subst (λ (X : Type 0). X) there born), λ born. subst (λ (X : Type 0). X) (sym there) (kept.1 born))
  | inr run ↦
      let left = completed_taken_back us run.1 backed in
      let there : AreNamedByBirth (places ++ future s words remaining) (taken_back us (completed s places remaining words))
      ≡ AreNamedByBirth (places ++ future s (taken_back us words) remaining) (completed s places remaining (taken_back us words)) =
      ap (λ (ws : List ℕ). AreNamedByBirth (places ++ future s words remaining) ws) (sym left.same)
      ∙ ap (λ (ps : Places). AreNamedByBirth (places ++ ps) (completed s places remaining (taken_back us words))) (sym left.future) in
      let kept = births_kept us heap backed in
      let same = collecting_births left.is in
      (λ born. kept.0 (same.0 (subst (λ (X : Type 0). X) there born)), λ born. subst (λ (X : Type 0). X) (sym there) (same.1 (kept.1 born)))
]

-- A graph is seen by births in the words as they stand without some writes, where births give the names in the words in which it stands.
pub over_born : {s : State} {places remaining : Places} {words : List ℕ} {g : Graph} (us : List UndoEntry) → IsHeap s places remaining words → AreBacked places words us
    → StandsCompleted 0 0 places remaining g us words s → AreNamedByBirth (places ++ future s words remaining) (taken_back us (completed s places remaining words)) → IsSeen (taken_back us words) s.base g
over_born {places = places} {remaining = remaining} {words = words} us heap backed stands born =
    let raw = (back_births us heap backed).0 born in
    over_seen us (id_at (taken_back us words)) heap backed stands (births_name (places ++ remaining) (taken_back us words) ((births_kept us heap backed).1 raw))
