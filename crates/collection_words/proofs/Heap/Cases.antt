-- The words of a heap, by whether a collection is under way.
use Rattle.std.proofs.Common.{◌≡◌, ◌⊎◌, ℕ, ◌+◌, ◌<◌, ◌≤◌, inl, inr, false, List, [], ◌++◌, length, Option, None, Some, refl, sym, ap, ◌∙◌, subst, arith}
use Rattle.std.specs.Prelude.{Contains, MatchOption, slice_index, slice_index_or}
use Rattle.std.proofs.lemmas.Option.{same_Some}
use Rattle.std.proofs.lemmas.List.{append-nil}
use Rattle.heap_spaces.specs.Collection.{Collection, owed_by}
use Rattle.heap_words.specs.Word.{meaning}
use Rattle.graph_model.specs.declared.val.Val.TheVariants.{Null}
use Rattle.graph_model.specs.Graph.{Graph, fields}
use Rattle.object_layout.specs.Layout.{birth_at, object_at}
use Rattle.log_machine.specs.Machine.{State, field_at, owed, words_in}
use Rattle.graph_words.specs.Area.{HasMade}
use Rattle.graph_words.specs.Places.{IsVisible, Places, addresses}
use Rattle.graph_words.specs.Stands.{Stands}
use Rattle.graph_words.proofs.Stands.Objects.{stands_field, stands_object, stands_placed}
use Rattle.collection_words.specs.Completed.{completed, completed_places, future}
use Rattle.collection_words.specs.LaidOut.{AreHeapWords, IsFromSpace, IsLaidOut, LeadsHere, is_gray_field}
use Rattle.collection_words.proofs.Heap.Front.{all_at, visible_leads_all}
use Rattle.collection_words.proofs.Laid.Completed.{completed_none, move_made}
use Rattle.collection_words.proofs.Laid.Followed.{move_placed, raw_word}
use Rattle.collection_words.proofs.Laid.Sources.{IsCollecting, collecting}

-- No collection is under way, and nothing remains.
pub record HasNone (s : State) (remaining : Places) : Type 0 where
  pub none : s.collection ≡ None
  pub left : remaining ≡ []

-- one is under way, or none
pub heap_cases : {s : State} {places remaining : Places} {words : List ℕ} → AreHeapWords s places remaining words → HasNone s remaining ⊎ ((k : Collection) × IsCollecting s k places remaining words)
heap_cases {s} {places} {remaining} {words} heap = by s.collection refl
  where
    by : (o : Option Collection) → s.collection ≡ o → HasNone s remaining ⊎ ((k : Collection) × IsCollecting s k places remaining words)
    by None none = inl (record { none = none; left = subst (λ o. MatchOption o (remaining ≡ []) (λ k. IsFromSpace s k places remaining words)) none heap.laid.from })
    by (Some k) run = inr (k, collecting k run heap.spaced heap.long heap.laid)

-- where one is under way the words are a heap's
pub collecting_heap : {s : State} {k : Collection} {places remaining : Places} {words : List ℕ} → words_in s.pages ≤ 2097152 → IsCollecting s k places remaining words → AreHeapWords s places remaining words
collecting_heap small is = record { spaced = is.spaced; long = is.long; small = small; laid = is.laid }

-- Without a collection.

-- What completed words and places are without a collection, and what is owed.
pub record IsPlain (s : State) (places remaining : Places) (words : List ℕ) : Type 0 where
  pub left : remaining ≡ []
  pub words_are : completed s places remaining words ≡ words
  pub places_are : completed_places s places remaining words ≡ places
  pub owes : owed s ≡ 0

pub plain : (s : State) (places remaining : Places) (words : List ℕ) → HasNone s remaining → IsPlain s places remaining words
plain s places remaining words none = record {
  left = none.left;
  words_are = completed_none s places remaining words none.none;
  places_are = ap (λ (ps : Places). places ++ future s words ps) none.left ∙ append-nil places;
  owes = ap owed_by none.none;
}

-- Current objects.

-- A current object stands in the completed words as it does in the words.
pub record StandsAlike (s : State) (places remaining : Places) (words : List ℕ) (at n : ℕ) : Type 0 where
  pub object : object_at (completed s places remaining words) at ≡ Some n
  pub birth : birth_at (completed s places remaining words) at ≡ birth_at words at

pub stands_alike : {s : State} {places remaining : Places} {words : List ℕ} → AreHeapWords s places remaining words → (at n : ℕ) → Contains (addresses places) at → object_at words at ≡ Some n
    → StandsAlike s places remaining words at n
stands_alike {s} {places} {remaining} {words} heap at n has object = elim (heap_cases heap) [
  | inl none ↦
      let same = completed_none s places remaining words none.none in
      record { object = ap (λ ws. object_at ws at) same ∙ object; birth = ap (λ ws. birth_at ws at) same }
  | inr runs ↦ let made = move_made runs.1 at at n (move_placed heap.laid at has) object in record { object = made.is; birth = made.birth }
]

-- a field of it that is not gray has its own word in the completed words
pub heap_word : {s : State} {places remaining : Places} {words : List ℕ} → AreHeapWords s places remaining words → (at n i : ℕ) → Contains (addresses places) at → object_at words at ≡ Some n → i < n
    → is_gray_field s.collection at i ≡ false → slice_index (completed s places remaining words) (field_at at i) ≡ slice_index words (field_at at i)
heap_word {s} {places} {remaining} {words} heap at n i has object below black = elim (heap_cases heap) [
  | inl none ↦ ap (λ (ws : List ℕ). slice_index ws (field_at at i)) (completed_none s places remaining words none.none)
  | inr runs ↦ raw_word runs.1 at n i has object below black
]

abbrev nothing : Places
nothing = []
