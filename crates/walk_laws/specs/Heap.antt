-- A heap within a collection or without one: the spaces that are walked, and the graph that stands.
use Rattle.std.specs.Prelude.{◌≡◌, ℕ, ◌+◌, ◌-◌, ◌≤◌, List, [], ◌++◌, length, map, filter, Bool, true, false, Option, None, Some, Contains}
use Rattle.heap_spaces.specs.Collection.{Collection}
use Rattle.graph_model.specs.declared.id.Id.{Id}
use Rattle.graph_model.specs.Graph.{Graph}
use Rattle.object_layout.specs.CollectionWalk.{FromSpace, IsWalkedBeside}
use Rattle.log_machine.specs.Machine.{State, space_words, words_in}
use Rattle.log_machine.specs.Sound.{IsSpaced}
use Rattle.log_machine.specs.Collecting.{other_base}
use Rattle.graph_words.specs.Places.{AreOld, Places, made_by}
use Rattle.graph_words.specs.Stands.{AreNamedByBirth, ArePlaced}
use Rattle.collection_words.specs.Completed.{StandsCompleted, future, in_other_space}
use Rattle.collection_words.specs.LaidOut.{IsLaidOut}
use Rattle.walk_laws.specs.Births.{HasOriginals, is_uncopied}
use Rattle.heap_words.specs.declared.TheConstants.{STABLE_WORDS}

-- The spaces.

-- the space that a collection empties, if one runs
abbrev pub from_space_in : State → Option Collection → Option FromSpace
from_space_in s None = None
from_space_in s (Some k) = Some (record { base = other_base s; collection = k })

abbrev pub from_space : State → Option FromSpace
from_space s = from_space_in s s.collection

-- the walk of the spaces of a state passes
abbrev pub IsStateWalked : State → List ℕ → Type 0
IsStateWalked s words = IsWalkedBeside words s.base s.used (from_space s)

-- These are the words of both spaces of a state.
pub record AreSpaces (s : State) (words : List ℕ) : Type 0 where
  pub spaced : IsSpaced s
  pub long : length words ≡ words_in s.pages
  pub small : words_in s.pages ≤ STABLE_WORDS

-- the objects of the current space that a walk has met
abbrev pub current_starts : (words : List ℕ) (base used : ℕ) (from : Option FromSpace) → IsWalkedBeside words base used from → List ℕ
current_starts words base used None walked = walked.starts
current_starts words base used (Some from) walked = walked.starts

-- those of the from-space that are not copied
abbrev pub left_starts : (words : List ℕ) (base used : ℕ) (from : Option FromSpace) → IsWalkedBeside words base used from → List ℕ
left_starts words base used None walked = []
left_starts words base used (Some from) walked = filter (is_uncopied from.collection) walked.olds

-- the same of the walk of a state
abbrev pub current_of : (s : State) (words : List ℕ) → IsStateWalked s words → List ℕ
current_of s words walked = current_starts words s.base s.used (from_space s) walked

abbrev pub left_of : (s : State) (words : List ℕ) → IsStateWalked s words → List ℕ
left_of s words walked = left_starts words s.base s.used (from_space s) walked

-- The graph.

-- A committed graph stands in the words of a state: these are laid out, and it stands in the completed ones.
pub record HoldsGraph (s : State) (places remaining : Places) (words : List ℕ) (g : Graph) : Type 0 where
  pub laid : IsLaidOut s places remaining words
  pub stands : StandsCompleted 0 0 places remaining g [] words s

-- The same, and each object of the graph has a place, in the words and in the completed ones.
pub record HoldsWhole (s : State) (places remaining : Places) (words : List ℕ) (g : Graph) : Type 0 where
  pub holds : HoldsGraph s places remaining words g
  pub placed : ArePlaced (places ++ remaining) g
  pub placed_in_completed : ArePlaced (places ++ future s words remaining) g

-- The births in the words of a state name the objects of both spaces, and the from-space still gives those of its own.
pub record TellsBirths (s : State) (places remaining : Places) (words : List ℕ) : Type 0 where
  pub names : AreNamedByBirth (places ++ remaining) words
  pub originals : HasOriginals s words s.collection

-- A graph stands whose objects are named by their births, and the transactions that gave these are below the next one.
pub record HoldsBorn (s : State) (next : ℕ) (places remaining : Places) (words : List ℕ) (g : Graph) : Type 0 where
  pub holds : HoldsGraph s places remaining words g
  pub old : AreOld next (places ++ remaining)
  pub tells : TellsBirths s places remaining words

-- Names.

-- the objects that start at these addresses, each under its name
abbrev pub places_by : (ℕ → Id) → List ℕ → Places
places_by name starts = map (λ at. (name at, at)) starts

-- no two of these objects have one name
abbrev pub AreNamedApart : (ℕ → Id) → List ℕ → Type 0
AreNamedApart name starts = (a b : ℕ) → Contains starts a → Contains starts b → name a ≡ name b → a ≡ b

-- how far an object stands from where its space begins, where the current space comes first
abbrev pub distance : State → ℕ → Bool → ℕ
distance s at true = space_words s.pages + (at - other_base s)
distance s at false = at - s.base

-- a name that says this: the root stands at the base of the current space
abbrev pub address_name_beside : State → ℕ → Id
address_name_beside s at = made_by 0 (distance s at (in_other_space s at))
