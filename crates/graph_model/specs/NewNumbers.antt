-- Which transactions can run on a graph: those that name what they make as nothing in it is named.
use Rattle.std.specs.Prelude.{◌≢◌, ℕ, List, [], ◌∷◌}
use Rattle.std.specs.List.{AllByRecursion}
use Rattle.graph_model.specs.declared.id.Id.{Id}
use Rattle.graph_model.specs.Graph.{Graph}
use Rattle.graph_model.specs.Canon.{Reached}
use Rattle.graph_model.specs.Transaction.{Transaction}

-- no object that is reached has a name that transaction n gives
abbrev pub IsNewNumber : Graph → ℕ → Type 0
IsNewNumber g n = (id : Id) → Reached g id → id.t ≢ n

-- nor one that one of these transactions gives
abbrev pub HaveNewNumbers : Graph → List Transaction → Type 0
HaveNewNumbers g ts = AllByRecursion (λ (t : Transaction). IsNewNumber g t.number) ts

-- no two of these transactions have one number
abbrev pub HaveOwnNumbers : List Transaction → Type 0
HaveOwnNumbers [] = Unit {0}
HaveOwnNumbers (t ∷ ts) = AllByRecursion (λ (u : Transaction). u.number ≢ t.number) ts × HaveOwnNumbers ts
