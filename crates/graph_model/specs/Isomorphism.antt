-- When two graphs are one up to renaming objects: a one-to-one match of what their roots reach keeps the fields.
use Rattle.std.specs.Prelude.{◌≡◌, ◌↔◌, List, [], ◌∷◌}
use Rattle.graph_model.specs.declared.id.Id.{Id}
use Rattle.graph_model.specs.declared.val.Val.{Val}
use Rattle.graph_model.specs.declared.val.Val.TheVariants.{Null, Int, Ref}
use Rattle.graph_model.specs.Graph.{Graph, root, fields}
use Rattle.graph_model.specs.Canon.{Reached}

-- two values that match: both null, one number, or references to objects that match
abbrev pub MatchValues : (Id → Id → Type 0) → Val → Val → Type 0
MatchValues R Null Null = Unit {0}
MatchValues R (Int n) (Int m) = n ≡ m
MatchValues R (Ref a) (Ref b) = R a b
MatchValues R v w = ⊥

-- two rows of fields that match, one by one
abbrev pub MatchRows : (Id → Id → Type 0) → List Val → List Val → Type 0
MatchRows R [] [] = Unit {0}
MatchRows R (v ∷ vs) (w ∷ ws) = MatchValues R v w × MatchRows R vs ws
MatchRows R vs ws = ⊥

-- A one-to-one match of what the roots of two graphs reach that keeps fields: the roots match, only what is reached does, each object that
-- is reached in either graph matches exactly one of the other, and those that match have fields that match.
pub record IsIsomorphism (R : Id → Id → Type 0) (g h : Graph) : Type 0 where
  pub roots : R root root
  pub reached : (a b : Id) → R a b → Reached g a × Reached h b
  pub each : (a : Id) → Reached g a → (b : Id) × R a b
  pub each_back : (b : Id) → Reached h b → (a : Id) × R a b
  pub one_to_one : (a b x y : Id) → R a b → R x y → (a ≡ x) ↔ (b ≡ y)
  pub same_fields : (a b : Id) → R a b → MatchRows R (fields g a) (fields h b)

-- What is reached in one graph, under new names: each object's new name is the match of its old one.
abbrev pub IsRenaming : (Id → Id) → Graph → Graph → Type 0
IsRenaming name g h = IsIsomorphism (λ a b. Reached g a × (name a ≡ b)) g h

-- the graphs are one up to renaming objects
abbrev pub AreRenamed : Graph → Graph → Type 0
AreRenamed g h = (name : Id → Id) × IsRenaming name g h
