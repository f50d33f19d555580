-- A match of the objects of two graphs. It asks less than an isomorphism, and still gives one canon: that it covers what is reached follows.
use Rattle.std.specs.Prelude.{◌≡◌, List, Some}
use Rattle.std.specs.FinMap.{get}
use Rattle.graph_model.specs.declared.id.Id.{Id}
use Rattle.graph_model.specs.declared.val.Val.{Val}
use Rattle.graph_model.specs.Graph.{Graph, is_same_id, root}
use Rattle.graph_model.specs.Isomorphism.{MatchRows}

-- what both graphs say of two objects that match
pub record MatchObjects (R : Id → Id → Type 0) (g h : Graph) (a b : Id) : Type 0 where
  pub one : List Val
  pub other : List Val
  pub here : get g a ≡ Some one
  pub there : get h b ≡ Some other
  pub rows : MatchRows R one other

-- The objects of two graphs match: the roots do, those that do have fields that match, and each object matches one alone.
pub record IsMatch (R : Id → Id → Type 0) (g h : Graph) : Type 0 where
  pub roots : R root root
  pub objects : (a b : Id) → R a b → MatchObjects R g h a b
  pub one_to_one : (a b x y : Id) → R a b → R x y → is_same_id a x ≡ is_same_id b y
