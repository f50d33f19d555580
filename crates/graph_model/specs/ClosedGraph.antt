-- Graphs in which no reference dangles, and what transactions see of them.
use Rattle.std.specs.Prelude.{◌≡◌, ℕ, List, slice_get, None, Some}
use Rattle.std.specs.FinMap.{get}
use Rattle.graph_model.specs.declared.id.Id.{Id}
use Rattle.graph_model.specs.declared.val.Val.{Val}
use Rattle.graph_model.specs.declared.val.Val.TheVariants.{Ref}
use Rattle.graph_model.specs.Graph.{Graph, root, fields}
use Rattle.graph_model.specs.Canon.{Reached}

-- there is an object of that name
abbrev pub IsThere : Graph → Id → Type 0
IsThere g id = (vs : List Val) × (get g id ≡ Some vs)

-- each object that is reached is there
abbrev pub IsWhole : Graph → Type 0
IsWhole g = (id : Id) → Reached g id → IsThere g id

-- A graph is closed: the root is there, and each reference of each object leads to an object that is there.
pub record IsClosed (g : Graph) : Type 0 where
  pub root_there : IsThere g root
  pub targets : (id : Id) (i : ℕ) (target : Id) → slice_get (fields g id) i ≡ Some (Ref target) → IsThere g target

-- no object has a name that transaction t gives
abbrev pub IsUnused : Graph → ℕ → Type 0
IsUnused g t = (id : Id) → id.t ≡ t → get g id ≡ None
