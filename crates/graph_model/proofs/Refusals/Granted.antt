-- Laws of refusals: what holds where a call is not refused, and where it is.
use Rattle.std.proofs.Common.{◌≡◌, ℕ, ◌<◌, ◌≤◌, Bool, true, false, length, Option, Some, None, refl}
use Rattle.std.specs.Prelude.{nat_lt, nat_le, if◌then◌else◌}
use Rattle.std.proofs.lemmas.Bool.{ltb-false, leb-false}
use Rattle.graph_model.specs.declared.id.Id.{Id}
use Rattle.graph_model.specs.declared.event.Event.TheVariants.{New}
use Rattle.graph_model.specs.declared.reply.Refusal.{Refusal}
use Rattle.graph_model.specs.declared.reply.Refusal.TheVariants.{BadHandle, Range, BadField}
use Rattle.graph_model.specs.Graph.{Graph, fields}
use Rattle.graph_model.specs.Transaction.{View, held}
use Rattle.graph_model.specs.Plain.{most_fields, field_refusal, view_refusal}
use Rattle.graph_model.proofs.Whole.Names.{HoldsField}

if_none : (b : Bool) (why : Refusal) (o : Option Refusal) → (if b then Some why else o) ≡ None → (b ≡ false) × (o ≡ None)
if_none true why o is = cc
if_none false why o is = (refl, is)

-- an object that may be made
pub new_granted : (v : View) (s h len : ℕ) → view_refusal v (New s h len) ≡ None → (h ≤ 63) × (len ≤ most_fields)
new_granted v s h len is =
    let parts = if_none (nat_lt 63 h) BadHandle (if nat_lt most_fields len then Some Range else None) is in
    (ltb-false 63 h parts.0, ltb-false most_fields len (if_none (nat_lt most_fields len) Range None parts.1).0)

field_granted : (g : Graph) (o : Option Id) (i : ℕ) → field_refusal g o i ≡ None → (id : Id) × (o ≡ Some id) × (i < length (fields g id))
field_granted g None i is = cc
field_granted g (Some id) i is = (id, refl, leb-false (length (fields g id)) i (if_none (nat_le (length (fields g id)) i) BadField None is).0)

-- a field that may be named
pub holds_field : (v : View) (h i : ℕ) → field_refusal v.graph (held v.registers h) i ≡ None → (id : Id) × HoldsField v h i id
holds_field v h i is =
    let found = field_granted v.graph (held v.registers h) i is in
    (found.0, record { holds = found.1; within = found.2 })
