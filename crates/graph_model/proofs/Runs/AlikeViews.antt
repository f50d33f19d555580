-- Two transactions' views that are alike: handles and fields of the one lead to objects that match those of the other.
use Rattle.std.specs.Prelude.{◌≡◌, ◌≢◌, ◌⊎◌, ℕ, ◌↔◌, [], ◌∷◌, Option, None, Some}
use Rattle.graph_model.specs.declared.id.Id.{Id}
use Rattle.graph_model.specs.Graph.{root, fields}
use Rattle.graph_model.specs.Transaction.{Registers, View}
use Rattle.graph_model.proofs.Whole.Names.{IsNameOf}
use Rattle.graph_model.specs.Isomorphism.{MatchRows}

-- the relation of ids, and beside it each object that transaction t has made with itself
abbrev pub WithMade : (Id → Id → Type 0) → ℕ → ℕ → Id → Id → Type 0
WithMade R t made a b = R a b ⊎ ((a ≡ b) × IsNameOf t made a)

-- two handles match: both hold nothing, or objects that match
abbrev pub MatchHeld : (Id → Id → Type 0) → Option Id → Option Id → Type 0
MatchHeld R None None = Unit {0}
MatchHeld R (Some a) (Some b) = R a b
MatchHeld R o p = ⊥

-- handles that match, one by one
abbrev pub MatchRegisters : (Id → Id → Type 0) → Registers → Registers → Type 0
MatchRegisters R [] [] = Unit {0}
MatchRegisters R (o ∷ rs) (p ∷ ss) = MatchHeld R o p × MatchRegisters R rs ss
MatchRegisters R rs ss = ⊥

-- Two views are alike by a relation of ids: roots and handles match, objects that match have fields that match, and as many were made.
pub record AreAlike (R : Id → Id → Type 0) (v w : View) : Type 0 where
  pub roots : R root root
  pub registers : MatchRegisters R v.registers w.registers
  pub same_fields : (a b : Id) → R a b → MatchRows R (fields v.graph a) (fields w.graph b)
  pub made : v.made ≡ w.made

-- the relation matches each object with one alone
abbrev pub IsOneToOne : (Id → Id → Type 0) → Type 0
IsOneToOne R = (a b x y : Id) → R a b → R x y → (a ≡ x) ↔ (b ≡ y)

-- none of the objects that match has a name that transaction n gives
abbrev pub IsApartFrom : (Id → Id → Type 0) → ℕ → Type 0
IsApartFrom R n = (a b : Id) → R a b → (a.t ≢ n) × (b.t ≢ n)
