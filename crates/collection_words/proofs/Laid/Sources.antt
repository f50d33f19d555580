-- Words that are laid out while a collection runs: the objects that completed words have, where each stands, and how many words they take.
use Rattle.std.proofs.Common.{◌≡◌, ℕ, ◌+◌, ◌≤◌, inl, inr, Bool, true, false, not, List, [], ◌++◌, length, Some, refl, sym, ap, ◌∙◌, subst, arith}
use Rattle.std.specs.Prelude.{Contains, MatchOption}
use Rattle.std.specs.FinSet.{contains}
use Rattle.std.proofs.lemmas.List.Elements.{Contains-append_cases}
use Rattle.heap_spaces.specs.Collection.{Collection, owed_by}
use Rattle.object_layout.specs.Layout.{object_at}
use Rattle.object_layout.specs.Walk.{AreEndToEnd}
use Rattle.object_layout.proofs.WalkedLaws.{end_to_end_object}
use Rattle.stability_tracker.proofs.ListLaws.{Contains-from_filter}
use Rattle.log_machine.specs.Machine.{State, owed, words_in}
use Rattle.log_machine.specs.Sound.{IsSpaced}
use Rattle.log_machine.proofs.StateLaws.{spaced_more}
use Rattle.graph_words.specs.Places.{Places, addresses}
use Rattle.graph_words.proofs.Area.Field.{end_to_end_whole}
use Rattle.collection_words.specs.Completed.{future, places_from, taken_by}
use Rattle.collection_words.specs.LaidOut.{StandsOrForwards, IsFromSpace, IsLaidOut}
use Rattle.collection_words.proofs.Moves.Ends.{addresses-append, places-append, places-same, taken_by-append, taken_by-ends}

-- A collection runs, and the words are laid out.
pub record IsCollecting (s : State) (k : Collection) (places remaining : Places) (words : List ℕ) : Type 0 where
  pub run : s.collection ≡ Some k
  pub spaced : IsSpaced s
  pub long : length words ≡ words_in s.pages
  pub laid : IsLaidOut s places remaining words
  pub from : IsFromSpace s k places remaining words

-- so it is where one runs
pub collecting : {s : State} (k : Collection) {places remaining : Places} {words : List ℕ} → s.collection ≡ Some k → IsSpaced s → length words ≡ words_in s.pages → IsLaidOut s places remaining words
    → IsCollecting s k places remaining words
collecting {s} k {places} {remaining} {words} run spaced long laid = record {
  run = run;
  spaced = spaced;
  long = long;
  laid = laid;
  from = subst (λ o. MatchOption o (remaining ≡ []) (λ k. IsFromSpace s k places remaining words)) run laid.from;
}

-- the objects of places stand end to end
pub here_ends : {s : State} {places remaining : Places} {words : List ℕ} → IsLaidOut s places remaining words → AreEndToEnd words s.base (addresses places) (s.base + s.used)
here_ends {s} {places} {words = words} laid = end_to_end_whole words (s.base + s.used) s.base (addresses places) (s.base + s.used) laid.filled.objects

no_true : (b : Bool) → not b ≡ true → b ≡ false
no_true true is = absurd (cc is)
no_true false is = refl

-- An object of the from-space that remains.
pub record IsLeft (k : Collection) (starts : List ℕ) (words : List ℕ) (at : ℕ) : Type 0 where
  pub start : Contains starts at
  pub unmoved : contains k.moved at ≡ false
  pub fields : ℕ
  pub object : object_at words at ≡ Some fields

-- each that remains is one
pub left_object : {s : State} {k : Collection} {places remaining : Places} {words : List ℕ} (from : IsFromSpace s k places remaining words) (at : ℕ) → Contains (addresses remaining) at
    → IsLeft k from.starts words at
left_object {k = k} {places = places} {words = words} from at has =
    let kept = Contains-from_filter (λ (a : ℕ). not (contains k.moved a)) from.starts at (subst (λ (xs : List ℕ). Contains xs at) from.left has) in
    let still = no_true (contains k.moved at) kept.1 in
    let object = subst (StandsOrForwards words (addresses places) at) still (from.forwarded at kept.0) in
    record { start = kept.0; unmoved = still; fields = object.0; object = object.1 }

-- at each place, and where one remains, stands an object
pub source_object : {s : State} {k : Collection} {places remaining : Places} {words : List ℕ} → IsCollecting s k places remaining words → (at : ℕ) → Contains (addresses (places ++ remaining)) at
    → (n : ℕ) × (object_at words at ≡ Some n)
source_object {s} {places = places} {remaining = remaining} {words = words} is at has =
    elim (Contains-append_cases (addresses places) (addresses remaining) at (subst (λ (xs : List ℕ). Contains xs at) (addresses-append places remaining) has)) [
      | inl here ↦ end_to_end_object words s.base (addresses places) (s.base + s.used) at (here_ends is.laid) here
      | inr back ↦ let left = left_object is.from at back in (left.fields, left.object)
    ]

-- they take the used words
pub here_taken : {s : State} {places remaining : Places} {words : List ℕ} → IsLaidOut s places remaining words → taken_by words (addresses places) ≡ s.used
here_taken {s} {places} {words = words} laid = let ends = taken_by-ends words s.base (addresses places) (s.base + s.used) (here_ends laid) in omega arith

-- and what is owed
pub left_taken : {s : State} {k : Collection} {places remaining : Places} {words : List ℕ} → IsCollecting s k places remaining words → taken_by words (addresses remaining) ≡ owed s
left_taken is = let sum = is.from.sum in omega (arith, ap owed_by is.run)

pub all_taken : {s : State} {k : Collection} {places remaining : Places} {words : List ℕ} → IsCollecting s k places remaining words → taken_by words (addresses (places ++ remaining)) ≡ s.used + owed s
all_taken {places = places} {remaining = remaining} {words = words} is =
    ap (taken_by words) (addresses-append places remaining) ∙ omega (arith, taken_by-append words (addresses places) (addresses remaining), here_taken is.laid, left_taken is)

-- the words have room for all of them
pub all_fit : {s : State} {k : Collection} {places remaining : Places} {words : List ℕ} → IsCollecting s k places remaining words → s.base + taken_by words (addresses (places ++ remaining)) ≤ length words
all_fit {s} is = let room = spaced_more s (owed s) is.spaced is.spaced.room in omega (arith, all_taken is, is.long)

-- their places are those of the current objects, and after them those to come
pub all_places : {s : State} {places remaining : Places} {words : List ℕ} → IsLaidOut s places remaining words → places ++ future s words remaining ≡ places_from words (places ++ remaining) s.base
all_places {s} {places} {remaining} {words} laid =
    let here = places-same words s.base places (s.base + s.used) (here_ends laid) in
    let next : s.base + taken_by words (addresses places) ≡ s.base + s.used = omega (arith, here_taken laid) in
    sym (places-append words places remaining s.base
    ∙ ap (λ (ps : Places). ps ++ places_from words remaining (s.base + taken_by words (addresses places))) here
    ∙ ap (λ (at : ℕ). places ++ places_from words remaining at) next)
