-- What the numbering of a canon is: all that is reached, each once, in breadth-first order.
use Rattle.std.specs.Prelude.{◌≡◌, ℕ, ◌↔◌, List, [], ◌∷◌, map, slice_get, Some, Contains}
use Rattle.graph_model.specs.declared.id.Id.{Id}
use Rattle.graph_model.specs.declared.val.Val.{Val}
use Rattle.graph_model.specs.Graph.{Graph, root, fields}
use Rattle.graph_model.specs.Canon.{Reached, with_targets}

-- the numbered ids, followed by those that these rows of fields refer to, each where it is first met
abbrev pub with_rows : List Id → List (List Val) → List Id
with_rows ids [] = ids
with_rows ids (vs ∷ rows) = with_rows (with_targets ids vs) rows

-- The ids of what is reached in the order of their numbers: the root is the first, each that is reached has one number and no other id has
-- any, and when the rows are read in that order, fields in order, the numbers are first met in ascending order.
pub record IsNumbering (g : Graph) (ids : List Id) : Type 0 where
  pub first : slice_get ids 0 ≡ Some root
  pub exactly : (id : Id) → Contains ids id ↔ Reached g id
  pub once : (i j : ℕ) (id : Id) → slice_get ids i ≡ Some id → slice_get ids j ≡ Some id → i ≡ j
  pub breadth_first : ids ≡ with_rows (root ∷ []) (map (fields g) ids)
