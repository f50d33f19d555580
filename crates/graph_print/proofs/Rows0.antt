-- The rows of a graph that is met in words.
use Rattle.std.specs.Prelude.{ℕ, List, map}
use Rattle.graph_model.specs.Canon.{Shown}
use Rattle.object_layout.specs.Layout.{field_words}
use Rattle.graph_print.specs.Order.{row}

-- a row for each of these places
abbrev pub rows : List ℕ → List ℕ → List ℕ → List (List Shown)
rows words places ats = map (λ at. row words places (field_words words at)) ats
