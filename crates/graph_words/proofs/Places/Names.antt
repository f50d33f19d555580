-- Names of objects by their addresses.
use Rattle.std.specs.Prelude.{◌≡◌, ℕ, ◌-◌, ◌==◌, List, [], ◌∷◌, map, Some, if◌then◌else◌}
use Rattle.graph_model.specs.declared.id.Id.{Id}
use Rattle.graph_model.specs.Graph.{root}
use Rattle.graph_words.specs.Places.{Places, addresses, address_of, made_by}

-- the id of the object that stands at an address, and the root's where none does
abbrev pub name_at : Places → ℕ → Id
name_at [] at = root
name_at (p ∷ ps) at = if p.1 == at then p.0 else name_at ps at

-- these names are those of the objects at their addresses
abbrev pub NamesPlaces : (ℕ → Id) → Places → Type 0
NamesPlaces name places = (id : Id) (at : ℕ) → address_of places id ≡ Some at → name at ≡ id

-- the objects that start at these addresses, under these names
abbrev pub named_places : (ℕ → Id) → List ℕ → Places
named_places name starts = map (λ at. (name at, at)) starts

-- a name that says how far an object stands from the base of the space: the root stands at the base
abbrev pub address_name : ℕ → ℕ → Id
address_name base at = made_by 0 (at - base)
