-- A graph that stands in the used words of a space, as a transaction sees it.
use Rattle.std.specs.Prelude.{◌≡◌, ℕ, ◌+◌, ◌<◌, ◌≤◌, List, length, map, slice_get, Any, None, Some, is_some, true}
use Rattle.std.specs.List.{AllByRecursion}
use Rattle.std.specs.FinMap.{get}
use Rattle.heap_words.specs.declared.Word.{Word}
use Rattle.graph_model.specs.declared.id.Id.{Id}
use Rattle.graph_model.specs.declared.val.Val.{Val}
use Rattle.graph_model.specs.declared.val.Val.TheVariants.{Ref}
use Rattle.graph_model.specs.Graph.{Graph, fields, root}
use Rattle.graph_model.specs.ClosedGraph.{IsThere}
use Rattle.object_layout.specs.Layout.{object_at, field_words, id_at}
use Rattle.object_layout.specs.Walk.{used_words, AreEndToEnd, IsRootAt}
use Rattle.log_machine.specs.declared.UndoEntry.{UndoEntry}
use Rattle.graph_words.specs.Places.{Places, addresses, address_of, place_of, bits_of, IsVisible}
use Rattle.heap_words.specs.declared.TheConstants.{STABLE_WORDS}

-- An object of a graph stands at an address: as many fields are there, each the word of its value.
pub record StandsAt (place : Id → Word) (g : Graph) (words : List ℕ) (id : Id) (at : ℕ) : Type 0 where
  pub values : List Val
  pub is : get g id ≡ Some values
  pub object : object_at words at ≡ Some (length values)
  pub fields : field_words words at ≡ map (bits_of place) values

-- A graph stands in the used words of a space, as transaction t, which has made that many objects, sees it: the objects of these places stand
-- there end to end, the root first, no two of one name, and their references lead to objects at hand.
pub record Stands (t made : ℕ) (places : Places) (g : Graph) (words : List ℕ) (base used : ℕ) : Type 0 where
  pub below : base + used ≤ STABLE_WORDS
  pub ends : AreEndToEnd (used_words words base used) base (addresses places) (base + used)
  pub root_object : IsRootAt (used_words words base used) base
  pub root_place : address_of places root ≡ Some base
  pub names : AllByRecursion (λ p. address_of places p.0 ≡ Some p.1) places
  pub each : (id : Id) (at : ℕ) → address_of places id ≡ Some at → StandsAt (place_of places g) g words id at
  pub visible : (id : Id) (at : ℕ) → address_of places id ≡ Some at → AllByRecursion (IsVisible places t made) (fields g id)

-- the same as it is committed: no reference leads to an object of a transaction
abbrev pub StandsCommitted : Places → Graph → List ℕ → ℕ → ℕ → Type 0
StandsCommitted places g words base used = Stands 0 0 places g words base used

-- one of these writes wrote that field
abbrev pub IsWritten : List UndoEntry → ℕ → ℕ → Type 0
IsWritten undo at field = Any (λ u. (u.object ≡ at) × (u.field ≡ field)) undo

-- The fields that lead to objects which do not stand in the current space are among those that these writes wrote.
abbrev pub AreWritten : Places → Graph → List UndoEntry → Type 0
AreWritten places g undo =
    (id target : Id) (at i : ℕ) → address_of places id ≡ Some at → slice_get (fields g id) i ≡ Some (Ref target) → address_of places target ≡ None
    → IsWritten undo at i

-- the birth of each object gives its name
abbrev pub AreNamedByBirth : Places → List ℕ → Type 0
AreNamedByBirth places words = AllByRecursion (λ p. id_at words p.1 ≡ p.0) places

-- A write of a field of an object that stands in the current space.
pub record IsOfField (places : Places) (g : Graph) (u : UndoEntry) : Type 0 where
  pub id : Id
  pub object : address_of places id ≡ Some u.object
  pub field : u.field < length (fields g id)

-- each of these writes is such
abbrev pub AreOfFields : Places → Graph → List UndoEntry → Type 0
AreOfFields places g undo = AllByRecursion (IsOfField places g) undo

-- each object of the graph stands in the space
abbrev pub ArePlaced : Places → Graph → Type 0
ArePlaced places g = (id : Id) → IsThere g id → is_some (address_of places id) ≡ true
