-- The calls that leave the graph as it is, and the records of a write.
use Rattle.std.proofs.Common.{◌≡◌, ℕ, [], ◌∷◌, Option, Some, ap, ◌∙◌}
use Rattle.graph_model.specs.declared.id.Id.{Id}
use Rattle.graph_model.specs.declared.val.Val.{Val}
use Rattle.graph_model.specs.declared.event.Event.{Event}
use Rattle.graph_model.specs.Graph.{fields}
use Rattle.graph_model.specs.Transaction.{View, held, call}
use Rattle.graph_words.specs.Places.{Places, IsOwn, address_of, place_of}
use Rattle.graph_words.proofs.Area.Made.{own_apart}
use Rattle.graph_words.specs.Area.{HasMade}
use Rattle.graph_words.proofs.Stands.Visible.{place_of-placed, place_of-apart}
use Rattle.heap_model.specs.Core.{update, write_records, view_records}
use Rattle.heap_model.proofs.Opening.Told.{update_of}

-- Calls.

-- A call that leaves the graph as it is, and makes nothing.
pub record IsQuiet (v : View) (t : ℕ) (event : Event) : Type 0 where
  pub graph : (call v t event).view.graph ≡ v.graph
  pub made : (call v t event).view.made ≡ v.made

-- Writes.

-- the records of a write into an object that stands in the current space, or in the transaction's area
pub stable_records : (places : Places) (t : ℕ) (v : View) (hd i : ℕ) (x : Val) (id : Id) (at : ℕ) → held v.registers hd ≡ Some id → address_of places id ≡ Some at
    → view_records places t v hd i x ≡ update_of places v.graph t id at i x ∷ []
stable_records places t v hd i x id at holds place =
    ap (λ (o : Option Id). write_records (place_of places v.graph) t v.graph o i x) holds
    ∙ ap (λ w. update (place_of places v.graph) t w (fields v.graph id) i x) (place_of-placed places v.graph id at place)

-- one into the transaction's area appends none
pub own_records : (places : Places) (t made : ℕ) (v : View) (hd i : ℕ) (x : Val) (id : Id) → held v.registers hd ≡ Some id → HasMade places v.graph t made → IsOwn t made id
    → view_records places t v hd i x ≡ []
own_records places t made v hd i x id holds has own =
    ap (λ (o : Option Id). write_records (place_of places v.graph) t v.graph o i x) holds
    ∙ ap (λ w. update (place_of places v.graph) t w (fields v.graph id) i x) (place_of-apart places v.graph id (own_apart has own))
