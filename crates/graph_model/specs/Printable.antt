-- Which graphs have a text of their own: their numbers are written out in full.
use Rattle.std.specs.Prelude.{◌≡◌, ℕ, ◌^◌, ◌<◌, length, slice_get, Some}
use Rattle.graph_model.specs.declared.id.Id.{Id}
use Rattle.graph_model.specs.declared.val.Val.TheVariants.{Int}
use Rattle.graph_model.specs.Graph.{Graph, fields}
use Rattle.graph_model.specs.Canon.{Reached, numbered}

-- The numbers in the fields of what is reached are below 2 ^ 64, and fewer than 2 ^ 64 objects are reached.
pub record IsPrintable (g : Graph) : Type 0 where
  pub numbers : (id : Id) (i n : ℕ) → Reached g id → slice_get (fields g id) i ≡ Some (Int n) → n < 2 ^ 64
  pub objects : length (numbered g) < 2 ^ 64
