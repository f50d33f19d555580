-- Fields of objects that stand in the space.
use Rattle.std.specs.Prelude.{◌≡◌, ℕ, ◌<◌, List, Contains, Some}
use Rattle.graph_model.specs.Graph.{fields}
use Rattle.object_layout.specs.Layout.{object_at}
use Rattle.graph_words.specs.Places.{addresses}

-- A field of one of the objects that start at these addresses.
pub record IsField (words : List ℕ) (starts : List ℕ) (object field : ℕ) : Type 0 where
  pub start : Contains starts object
  pub fields : ℕ
  pub stands : object_at words object ≡ Some fields
  pub within : field < fields
