-- Laws of the objects at hand: those that stand in the space, and those that the transaction has made.
use Rattle.std.proofs.Common.{List, [], inl, inr, slice_index_or, suc, zero, ℕ, ◌∷◌}
use Rattle.std.specs.List.{AllByRecursion}
use Rattle.graph_model.specs.Graph.{Graph, fields}
use Rattle.graph_model.specs.declared.id.Id.{Id}
use Rattle.graph_model.specs.declared.val.Val.{Val}
use Rattle.graph_model.specs.declared.val.Val.TheVariants.{Null}
use Rattle.graph_words.specs.Area.{HasMade}
use Rattle.graph_words.proofs.Area.Made.{own_visible}
use Rattle.graph_words.specs.Places.{IsAtHand, IsVisible, Places, address_of}
use Rattle.graph_words.proofs.Places.Addresses.{some_address}
use Rattle.graph_words.specs.Stands.{Stands}

-- and its values are seen
pub at_hand_visible : {t made : ℕ} {places : Places} {g : Graph} {words : List ℕ} {base used : ℕ} → Stands t made places g words base used → HasMade places g t made
    → (id : Id) → IsAtHand places t made id → AllByRecursion (IsVisible places t made) (fields g id)
at_hand_visible {places = places} stands has id (inl there) = let place = some_address (address_of places id) there in stands.visible id place.0 place.1
at_hand_visible stands has id (inr own) = own_visible has own
