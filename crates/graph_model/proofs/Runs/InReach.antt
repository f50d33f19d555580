-- What a transaction can come to: all that references lead to from the root and from what its handles hold.
use Rattle.std.specs.Prelude.{◌≡◌, ℕ, Some, slice_get}
use Rattle.graph_model.specs.declared.id.Id.{Id}
use Rattle.graph_model.specs.declared.val.Val.TheVariants.{Ref}
use Rattle.graph_model.specs.Graph.{root, fields}
use Rattle.graph_model.specs.Transaction.{View, held}
use Rattle.graph_model.specs.ClosedGraph.{IsThere}

-- an object that a transaction can come to
pub data IsInReach (v : View) : Id → Type 0 where
  of_root : IsInReach v root
  of_handle : {id : Id} (h : ℕ) → held v.registers h ≡ Some id → IsInReach v id
  of_field : {id : Id} (i : ℕ) (target : Id) → IsInReach v id → slice_get (fields v.graph id) i ≡ Some (Ref target) → IsInReach v target

-- each of these is there
abbrev pub SeesWhole : View → Type 0
SeesWhole v = (id : Id) → IsInReach v id → IsThere v.graph id
