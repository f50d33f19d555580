-- Where the objects of an area start.
use Rattle.std.proofs.Common.{zero, suc}
use Rattle.std.specs.Prelude.{ℕ, List, [], ◌∷◌, ◌++◌}
use Rattle.graph_model.specs.Graph.{Graph}
use Rattle.graph_words.specs.Places.{area_used}

-- where these objects start in the area, in the order of their making
abbrev pub area_starts : Graph → ℕ → ℕ → List ℕ
area_starts g t zero = []
area_starts g t (suc n) = area_starts g t n ++ area_used g t n ∷ []
