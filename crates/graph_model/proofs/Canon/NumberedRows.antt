-- The rows of a numbering.
use Rattle.std.specs.Prelude.{List, map}
use Rattle.graph_model.specs.declared.id.Id.{Id}
use Rattle.graph_model.specs.Graph.{Graph, fields}
use Rattle.graph_model.specs.Canon.{Shown, shown}

-- the rows of these objects, as those numbered show them
abbrev pub rows_of : Graph → List Id → List Id → List (List Shown)
rows_of g numbers ids = map (λ id. map (shown numbers) (fields g id)) ids
