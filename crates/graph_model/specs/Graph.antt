-- The graph of objects: which fields each object has. No object moves or leaves.
use Rattle.std.specs.Prelude.{ℕ, List, [], replicate, unwrap_or, slice_set, nat_eq, Bool, ◌&&◌}
use Rattle.std.specs.Ordering.{nat_cmp, ordering_then}
use Rattle.std.specs.declared.cmp.Ordering.{Ordering}
use Rattle.std.specs.FinMap.{FinMap, empty, get, insert}
use Rattle.graph_model.specs.declared.id.Id.{Id}
use Rattle.graph_model.specs.declared.val.Val.{Val}
use Rattle.graph_model.specs.declared.val.Val.TheVariants.{Null}

-- ids go by transaction, and then by index
abbrev pub id_cmp : Id → Id → Ordering
id_cmp a b = ordering_then (nat_cmp a.t b.t) (nat_cmp a.k b.k)

abbrev pub is_same_id : Id → Id → Bool
is_same_id a b = nat_eq a.t b.t && nat_eq a.k b.k

-- the object from which all others are reached
abbrev pub root : Id
root = record { t = 0; k = 0 }

-- each object's fields, in order
abbrev pub Graph : Type 0
Graph = FinMap id_cmp (List Val)

-- an object's fields, and none of an object that isn't there
abbrev pub fields : Graph → Id → List Val
fields g id = unwrap_or (get g id) []

-- the graph in which one field of an object has another value
abbrev pub with_field : Graph → Id → ℕ → Val → Graph
with_field g id i v = insert g id (slice_set (fields g id) i v)

-- the root object alone, with these fields
abbrev pub root_graph : List Val → Graph
root_graph fields = insert empty root fields

-- a new heap: the root object alone, with four null fields
abbrev pub new_graph : Graph
new_graph = root_graph (replicate 4 Null)
