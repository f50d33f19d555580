-- Objects that stand end to end in the used words of a space.
use Rattle.std.proofs.Common.{suc}
use Rattle.std.specs.Prelude.{◌≡◌, ℕ, ◌+◌, ◌≤◌, List, [], ◌∷◌, None, Some}
use Rattle.std.specs.List.{AllByRecursion}
use Rattle.graph_model.specs.Graph.{root}
use Rattle.object_layout.specs.Walk.{AreEndToEnd}
use Rattle.graph_words.specs.Places.{Places, addresses, address_of}
use Rattle.heap_words.specs.declared.TheConstants.{STABLE_WORDS}

-- The objects of these places fill the used words of a space, the root first, no two of one name, where references can lead.
pub record ArePlacedIn (places : Places) (words : List ℕ) (base used : ℕ) : Type 0 where
  pub below : base + used ≤ STABLE_WORDS
  pub ends : AreEndToEnd words base (addresses places) (base + used)
  pub root_place : address_of places root ≡ Some base
  pub names : AllByRecursion (λ p. address_of places p.0 ≡ Some p.1) places

-- no two of these objects have one name
abbrev pub HaveOwnNames : Places → Type 0
HaveOwnNames [] = Unit {0}
HaveOwnNames (p ∷ ps) = (address_of ps p.0 ≡ None) × HaveOwnNames ps

-- these addresses ascend, from one on
abbrev pub Ascend : ℕ → List ℕ → Type 0
Ascend low [] = Unit {0}
Ascend low (x ∷ xs) = (low ≤ x) × Ascend (suc x) xs
