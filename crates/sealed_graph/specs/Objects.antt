-- The graph of the objects that a map has.
use Rattle.std.specs.Prelude.{List, map}
use Rattle.std.specs.FinMap.{from_entries}
use Rattle.std.specs.Global.{Vec}
use Rattle.graph_model.specs.declared.id.Id.{Id}
use Rattle.graph_model.specs.declared.val.Val.{Val}
use Rattle.graph_model.specs.Graph.{Graph}

-- an object of the map: its name and its fields
abbrev pub row_of : Id × Vec Val → Id × List Val
row_of object = (object.0, object.1.items)

-- the graph of several objects
abbrev pub graph_of : List (Id × Vec Val) → Graph
graph_of objects = from_entries (map row_of objects)
