-- The words of the area of a transaction: the objects that it has made, end to end in the order of their making.
use Rattle.std.proofs.Common.{zero, suc}
use Rattle.std.specs.Prelude.{◌≡◌, ℕ, ◌≤◌, List, [], ◌∷◌, ◌++◌, length, map, None, Some}
use Rattle.std.specs.List.{AllByRecursion}
use Rattle.std.specs.FinMap.{get}
use Rattle.heap_words.specs.declared.Word.{Word}
use Rattle.heap_words.specs.declared.Header.TheVariants.{Length}
use Rattle.heap_words.specs.Header.{header_bits, birth_bits}
use Rattle.graph_model.specs.declared.id.Id.{Id}
use Rattle.graph_model.specs.declared.val.Val.{Val}
use Rattle.graph_model.specs.Graph.{Graph, fields}
use Rattle.volatile_area.specs.Area.{AreaState}
use Rattle.graph_words.specs.Places.{Places, address_of, made_by, area_used, bits_of, IsVisible}
use Rattle.heap_words.specs.declared.TheConstants.{MOST_FIELDS, VOLATILE_WORDS}

-- the words of an object: its header, its birth and its fields
abbrev pub object_words : (Id → Word) → Graph → Id → List ℕ
object_words place g id = header_bits (Length (length (fields g id))) ∷ birth_bits id.t id.k ∷ map (bits_of place) (fields g id)

-- the words of the first n objects that transaction t made
abbrev pub area_words : (Id → Word) → Graph → ℕ → ℕ → List ℕ
area_words place g t zero = []
area_words place g t (suc n) = area_words place g t n ++ object_words place g (made_by t (suc n))

-- An object that a transaction made is in its graph: it has a length that a header can hold, and its values can be seen.
pub record IsMade (places : Places) (g : Graph) (t made k : ℕ) : Type 0 where
  pub values : List Val
  pub is : get g (made_by t k) ≡ Some values
  pub short : length values ≤ MOST_FIELDS
  pub visible : AllByRecursion (IsVisible places t made) values

-- The objects that transaction t has made: none of them stands in the current space, and they fit into its area.
pub record HasMade (places : Places) (g : Graph) (t made : ℕ) : Type 0 where
  pub each : (k : ℕ) → 1 ≤ k → k ≤ made → IsMade places g t made k
  pub apart : (k : ℕ) → address_of places (made_by t k) ≡ None
  pub few : area_used g t made ≤ VOLATILE_WORDS

-- the area of transaction t, which has made that many objects of a graph
abbrev pub area_of : (Id → Word) → Graph → ℕ → ℕ → AreaState
area_of place g t made = record { transaction = t; made = made; words = area_words place g t made }
