-- How a graph is stored, so that it can be what contracts see of a struct.
use Rattle.std.specs.Prelude.{◌≡◌, ℕ, Option, None, Some}
use Rattle.std.specs.Coded.{Coded, code_by, coded×, coded⊎, coded_ℕ, coded_list, coded_option}
use Rattle.std.specs.FinMap as map
use Rattle.std.proofs.Common.{◌⊎◌, inl, inr, refl}
use Rattle.graph_model.specs.declared.id.Id.{Id}
use Rattle.graph_model.specs.declared.val.Val.{Val}
use Rattle.graph_model.specs.declared.val.Val.TheVariants.{Null, Int, Ref}
use Rattle.graph_model.specs.Graph.{Graph}

-- a name is stored as the pair of its numbers
abbrev pub id_code : Coded Id
id_code = code_by (ℕ × ℕ) (coded× coded_ℕ coded_ℕ) (λ id. (id.t, id.k)) (λ p. record { t = p.0; k = p.1 }) (λ _. refl)

-- a value as what it is stored as: nothing, a number, or a name
abbrev pub from_val : Val → Option (ℕ ⊎ Id)
from_val Null = None
from_val (Int n) = Some (inl n)
from_val (Ref id) = Some (inr id)

-- and back
abbrev pub to_val : Option (ℕ ⊎ Id) → Val
to_val None = Null
to_val (Some (inl n)) = Int n
to_val (Some (inr id)) = Ref id

abbrev pub same_val : (v : Val) → to_val (from_val v) ≡ v
same_val Null = refl
same_val (Int n) = refl
same_val (Ref id) = refl

abbrev pub val_code : Coded Val
val_code = code_by (Option (ℕ ⊎ Id)) (coded_option (coded⊎ coded_ℕ id_code)) from_val to_val same_val

-- a graph is stored as its objects in the order of their names
abbrev pub graph_code : Coded Graph
graph_code = map.code id_code (coded_list val_code)
