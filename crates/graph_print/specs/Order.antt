-- The objects that are met in words, numbered breadth first, and where that finds damage.
use Rattle.std.specs.Prelude.{◌≡◌, ℕ, ◌+◌, List, [], ◌∷◌, ◌++◌, map, nat_eq, position, slice_get, unwrap_or, Option, None, Some, IsSome, if◌then◌else◌}
use Rattle.std.specs.List.{list_any}
use Rattle.heap_words.specs.declared.Word.{Word}
use Rattle.heap_words.specs.declared.Word.TheVariants.{Null, Int, Stable}
use Rattle.heap_words.specs.Word.{meaning}
use Rattle.graph_model.specs.Canon.{Shown, Nothing, Number, Object}
use Rattle.object_layout.specs.Layout.{field_words, stand, referred}

-- the numbered places, followed by this one if it is new
abbrev pub with_place : List ℕ → Option ℕ → List ℕ
with_place places None = places
with_place places (Some at) = if list_any (nat_eq at) places then places else places ++ at ∷ []

-- the same for several, in order
abbrev pub with_places : List ℕ → List (Option ℕ) → List ℕ
with_places places [] = places
with_places places (o ∷ os) = with_places (with_place places o) os

-- where a field leads
abbrev pub target : List ℕ → ℕ → Option ℕ
target words w = referred words (meaning w)

-- where the fields lead that have these words, in order
abbrev pub targets : List ℕ → List ℕ → List (Option ℕ)
targets words ws = map (target words) ws

-- a field that is null, a number, or names an object
abbrev pub IsWholeField : List ℕ → Option Word → Type 0
IsWholeField words (Some Null) = Unit {0}
IsWholeField words (Some (Int n)) = Unit {0}
IsWholeField words (Some (Stable b)) = IsSome (stand words b)
IsWholeField words meant = ⊥

-- fields that are all so
abbrev pub AreWhole : List ℕ → List ℕ → Type 0
AreWhole words ws = (i w : ℕ) → slice_get ws i ≡ Some w → IsWholeField words (meaning w)

-- The places that are numbered after the fields of the first `count` of them were visited, in the order of their numbers: the first is where
-- an address leads, and each object gives a number to those that its fields refer to and that have none.
pub data IsOrder (words : List ℕ) (start : ℕ) : ℕ → List ℕ → Type 0 where
  first : {at : ℕ} → stand words start ≡ Some at → IsOrder words start 0 (at ∷ [])
  next : {count : ℕ} {places : List ℕ} (at : ℕ) → IsOrder words start count places → slice_get places count ≡ Some at → AreWhole words (field_words words at)
      → IsOrder words start (count + 1) (with_places places (targets words (field_words words at)))

-- The address at which damage is reported: the one that is printed, if it names no object; otherwise that of the first object, in the order of
-- the numbers, with a field that names none.
pub data IsDamage (words : List ℕ) (start : ℕ) : ℕ → Type 0 where
  no_root : stand words start ≡ None → IsDamage words start start
  no_object : {count : ℕ} {places : List ℕ} (at : ℕ) → IsOrder words start count places → slice_get places count ≡ Some at
      → (AreWhole words (field_words words at) → ⊥) → IsDamage words start at

-- the number of a place
abbrev pub place_number : List ℕ → ℕ → ℕ
place_number places at = unwrap_or (position (nat_eq at) places) 0

-- a reference as it is shown: by the number of the place where it leads
abbrev pub shown_place : List ℕ → Option ℕ → Shown
shown_place places (Some at) = Object (place_number places at)
shown_place places None = Nothing

-- a field as it is shown
abbrev pub shown_word : List ℕ → List ℕ → Option Word → Shown
shown_word words places (Some (Int n)) = Number n
shown_word words places meant = shown_place places (referred words meant)

-- the row of the fields that have these words
abbrev pub row : List ℕ → List ℕ → List ℕ → List Shown
row words places ws = map (λ w. shown_word words places (meaning w)) ws
