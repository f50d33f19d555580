-- What is reached from the root, numbered breadth first: two graphs that differ in names alone have one canon.
use Rattle.std.specs.Prelude.{◌≡◌, ℕ, ◌+◌, List, [], ◌∷◌, ◌++◌, Option, None, Some, map, unwrap_or, position, slice_get, if◌then◌else◌}
use Rattle.std.proofs.Common.{zero, suc}
use Rattle.std.specs.List.{list_any}
use Rattle.std.specs.FinMap.{len}
use Rattle.graph_model.specs.declared.id.Id.{Id}
use Rattle.graph_model.specs.declared.val.Val.{Val}
use Rattle.graph_model.specs.declared.val.Val.TheVariants.{Null, Int, Ref}
use Rattle.graph_model.specs.Graph.{Graph, is_same_id, root, fields}

-- what references lead to from the root, and the root
pub data Reached (g : Graph) : Id → Type 0 where
  at_root : Reached g root
  along : {id : Id} (i : ℕ) (target : Id) → Reached g id → slice_get (fields g id) i ≡ Some (Ref target) → Reached g target

-- the numbered ids, followed by the one that a value refers to if it is new
abbrev pub with_target : List Id → Val → List Id
with_target ids (Ref id) = if list_any (is_same_id id) ids then ids else ids ++ id ∷ []
with_target ids v = ids

-- the same for the fields of an object, in order
abbrev pub with_targets : List Id → List Val → List Id
with_targets ids [] = ids
with_targets ids (v ∷ vs) = with_targets (with_target ids v) vs

-- Visits the numbered objects from the ith on, in order, and numbers what they refer to.
-- Where each reference leads to an object, no more turns are needed than there are objects, since each is visited once.
abbrev pub visit : Graph → (turns : ℕ) → ℕ → Option Id → List Id → List Id
visit g zero i next ids = ids
visit g (suc turns) i None ids = ids
visit g (suc turns) i (Some id) ids =
    let more = with_targets ids (fields g id) in
    visit g turns (i + 1) (slice_get more (i + 1)) more

-- the ids of what is reached, in the order of their numbers
abbrev pub numbered : Graph → List Id
numbered g = visit g (len g) 0 (Some root) (root ∷ [])

-- a field as the canon shows it: a reference is its object's number
pub data Shown : Type 0 where
  Nothing : Shown
  Number : (n : ℕ) → Shown
  Object : (number : ℕ) → Shown

abbrev pub shown : List Id → Val → Shown
shown ids Null = Nothing
shown ids (Int n) = Number n
shown ids (Ref id) = Object (unwrap_or (position (is_same_id id) ids) 0)

-- a row for each object that is reached, in the order of their numbers
abbrev pub canon : Graph → List (List Shown)
canon g = map (λ id. map (shown (numbered g)) (fields g id)) (numbered g)
