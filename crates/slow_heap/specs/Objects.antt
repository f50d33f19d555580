-- The objects of a graph as the slow heap lists them.
use Rattle.std.specs.Prelude.{◌≡◌, List, [], ◌∷◌, map, None}
use Rattle.std.specs.FinMap.{empty, get, insert}
use Rattle.graph_model.specs.declared.id.Id.{Id}
use Rattle.graph_model.specs.declared.val.Val.{Val}
use Rattle.slow_heap.specs.declared.objects.Object.{Object}
use Rattle.graph_model.specs.Graph.{Graph}

-- an object's name and its fields
abbrev pub row_of : Object → Id × List Val
row_of object = (object.id, object.fields.items)

-- the same of several objects
abbrev pub rows_of : List Object → List (Id × List Val)
rows_of objects = map row_of objects

-- the graph of these objects
abbrev pub graph_of : List (Id × List Val) → Graph
graph_of [] = empty
graph_of (row ∷ rows) = insert (graph_of rows) row.0 row.1

-- no two of these objects have one name
abbrev pub AreApart : List (Id × List Val) → Type 0
AreApart [] = Unit {0}
AreApart (row ∷ rows) = (get (graph_of rows) row.0 ≡ None) × AreApart rows
