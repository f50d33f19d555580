-- The completed words, address by address.
use Rattle.std.proofs.Common.{◌≡◌, ℕ, ◌+◌, ◌<◌, ◌≤◌, List, [], ◌++◌, length, Option, None, Some, refl, sym, ap, ◌∙◌, subst, arith}
use Rattle.std.proofs.lemmas.List.{append-nil}
use Rattle.std.specs.Prelude.{Contains, slice_index}
use Rattle.heap_spaces.specs.Collection.{Collection}
use Rattle.graph_model.specs.declared.id.Id.{Id}
use Rattle.object_layout.specs.Layout.{object_at}
use Rattle.object_layout.specs.Walk.{AreEndToEnd}
use Rattle.log_machine.specs.Machine.{State, owed, put_all}
use Rattle.log_machine.proofs.WordsLaws.{length-put_all}
use Rattle.graph_words.specs.Places.{Places, address_of, addresses}
use Rattle.graph_words.proofs.Places.Addresses.{address_of-Contains}
use Rattle.collection_words.specs.Completed.{IsMade, completed, completed_in, completing, followed, future, moves_from, places_from}
use Rattle.collection_words.proofs.Laid.Sources.{IsCollecting, all_fit, all_places, all_taken, source_object}
use Rattle.collection_words.proofs.Moves.Sources.{IsPut, move_source, put_source}
use Rattle.collection_words.proofs.Words.Objects.{placed_ends, putting-object}
use Rattle.collection_words.proofs.Words.Put.{putting, putting-before, putting-behind}

-- Without a collection.

-- the words are complete
pub completed_none : (s : State) (places remaining : Places) (words : List ℕ) → s.collection ≡ None → completed s places remaining words ≡ words
completed_none s places remaining words none = ap (completed_in s places remaining words) none

pub places_none : (s : State) (places : Places) (words : List ℕ) → places ++ future s words [] ≡ places
places_none s places words = append-nil places

-- With one, or without.

-- the words stay as many
pub length-completed : (s : State) (places remaining : Places) (words : List ℕ) → length (completed s places remaining words) ≡ length words
length-completed s places remaining words = each s.collection
  where
    each : (o : Option Collection) → length (completed_in s places remaining words o) ≡ length words
    each None = refl
    each (Some k) = length-put_all (completing s places remaining words) words

-- While a collection runs.

-- they are the words with these objects put end to end
pub completed_put : {s : State} {k : Collection} {places remaining : Places} {words : List ℕ} → IsCollecting s k places remaining words
    → completed s places remaining words ≡ put_all words (putting (followed s words remaining) words (addresses (places ++ remaining)) s.base)
completed_put {s} {places = places} {remaining = remaining} {words = words} is = ap (completed_in s places remaining words) is.run

-- the words below the current space stay
pub completed-before : {s : State} {k : Collection} {places remaining : Places} {words : List ℕ} → IsCollecting s k places remaining words → (i : ℕ) → i < s.base
    → slice_index (completed s places remaining words) i ≡ slice_index words i
completed-before {s} {places = places} {remaining = remaining} {words = words} is i before =
    ap (λ (ws : List ℕ). slice_index ws i) (completed_put is)
    ∙ putting-before (followed s words remaining) words (addresses (places ++ remaining)) words s.base i before

-- and those past what is used and owed
pub completed-behind : {s : State} {k : Collection} {places remaining : Places} {words : List ℕ} → IsCollecting s k places remaining words → (i : ℕ) → s.base + (s.used + owed s) ≤ i
    → slice_index (completed s places remaining words) i ≡ slice_index words i
completed-behind {s} {places = places} {remaining = remaining} {words = words} is i behind =
    ap (λ (ws : List ℕ). slice_index ws i) (completed_put is)
    ∙ putting-behind (followed s words remaining) words (addresses (places ++ remaining)) words s.base i (omega (arith, all_taken is))

-- An object of the completed words: where it stands in the words, and what it has become.
pub record IsCompletedObject (s : State) (places remaining : Places) (words : List ℕ) (id : Id) (to : ℕ) : Type 0 where
  pub at : ℕ
  pub put : IsPut words (places ++ remaining) s.base id at to
  pub fields : ℕ
  pub made : IsMade (followed s words remaining) words (completed s places remaining words) at to fields

-- what is put somewhere is made there of what it was
pub move_made : {s : State} {k : Collection} {places remaining : Places} {words : List ℕ} → IsCollecting s k places remaining words → (at to n : ℕ)
    → Contains (moves_from words (addresses (places ++ remaining)) s.base) (at, to) → object_at words at ≡ Some n → IsMade (followed s words remaining) words (completed s places remaining words) at to n
move_made {s} {places = places} {remaining = remaining} {words = words} is at to n move object =
    subst (λ (ws : List ℕ). IsMade (followed s words remaining) words ws at to n) (sym (completed_put is))
    (putting-object (followed s words remaining) words (addresses (places ++ remaining)) words s.base at to n move (all_fit is) object)

-- each object of places, and each that is to come, is one
pub completed_object : {s : State} {k : Collection} {places remaining : Places} {words : List ℕ} → IsCollecting s k places remaining words → (id : Id) (to : ℕ)
    → address_of (places ++ future s words remaining) id ≡ Some to → IsCompletedObject s places remaining words id to
completed_object {s} {places = places} {remaining = remaining} {words = words} is id to there =
    let found = put_source words (places ++ remaining) s.base id to (ap (λ (ps : Places). address_of ps id) (sym (all_places is.laid)) ∙ there) in
    let put = found.1 in
    let object = source_object is found.0 (address_of-Contains (places ++ remaining) id found.0 put.stood) in
    record { at = found.0; put = put; fields = object.0; made = move_made is found.0 to object.0 put.move object.1 }

-- these stand end to end in the completed words
pub completed_ends : {s : State} {k : Collection} {places remaining : Places} {words : List ℕ} → IsCollecting s k places remaining words
    → AreEndToEnd (completed s places remaining words) s.base (addresses (places ++ future s words remaining)) (s.base + (s.used + owed s))
completed_ends {s} {places = places} {remaining = remaining} {words = words} is =
    let V = completed s places remaining words in
    let all = places ++ remaining in
    let ends = placed_ends words V all s.base (λ at there move.
    let object = source_object is at (move_source words (addresses all) s.base at there move) in
    let made = move_made is at there object.0 move object.1 in
    (object.0, object.1, made.is)) in
    subst (λ (ps : Places). AreEndToEnd V s.base (addresses ps) (s.base + (s.used + owed s))) (sym (all_places is.laid))
    (subst (λ (n : ℕ). AreEndToEnd V s.base (addresses (places_from words all s.base)) (s.base + n)) (all_taken is) ends)
