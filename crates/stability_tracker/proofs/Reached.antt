-- Reachability from written fields, as a relation.
use Rattle.std.specs.Prelude.{◌≡◌, ℕ, List, slice_get, Some, Contains}
use Rattle.heap_words.specs.declared.Word.TheVariants.{Volatile}
use Rattle.heap_words.specs.Word.{meaning}
use Rattle.object_layout.specs.Layout.{field_words}
use Rattle.volatile_area.specs.Area.{AreaState, starts_of}

-- An object of the area is reached from words that were written, through the fields of objects that are reached.
pub data IsReached (area : AreaState) (written : List ℕ) : ℕ → Type 0 where
  named : {at : ℕ} (i w : ℕ) → slice_get written i ≡ Some w → meaning w ≡ Some (Volatile at) → Contains (starts_of area) at → IsReached area written at
  along : {at : ℕ} (from i w : ℕ) → IsReached area written from → slice_get (field_words area.words from) i ≡ Some w → meaning w ≡ Some (Volatile at)
      → Contains (starts_of area) at → IsReached area written at
