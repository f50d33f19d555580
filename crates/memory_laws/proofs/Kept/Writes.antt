-- What is kept of a transaction when a field was written.
use Rattle.std.proofs.Common.{◌≡◌, ℕ, ◌<◌, List, length, map, Option, Some, ap, ◌∙◌}
use Rattle.std.specs.Option.{option_map}
use Rattle.std.proofs.Math.Path.{fun_ext}
use Rattle.graph_model.specs.declared.id.Id.{Id}
use Rattle.graph_model.specs.declared.val.Val.{Val}
use Rattle.graph_model.specs.Graph.{Graph, fields, with_field}
use Rattle.graph_model.specs.Transaction.{View}
use Rattle.log_machine.specs.declared.UndoEntry.{UndoEntry}
use Rattle.volatile_area.specs.Area.{AreaState}
use Rattle.txn_table.specs.declared.place.Place.{Place}
use Rattle.txn_table.specs.declared.place.Place.TheVariants.{Volatile}
use Rattle.graph_words.specs.Area.{HasMade}
use Rattle.graph_words.proofs.Area.State.{own_write_area, write_area}
use Rattle.graph_words.specs.Places.{Places, IsOwn, address_of, index_of, made_by, place_of, bits_of}
use Rattle.graph_words.proofs.Stands.Visible.{index_of-same, length-with_field}
use Rattle.heap_model.specs.Core.{area_in}
use Rattle.heap_memory.specs.Leaves.{with_written}
use Rattle.memory_laws.specs.CoreMemory.{standing_place, place_in, kept}

-- all objects stand where they did when a field was written
place_in-with_field : (places : Places) (g : Graph) (id : Id) (i : ℕ) (x : Val) → place_in places (with_field g id i x) ≡ place_in places g
place_in-with_field places g id i x =
    fun_ext (λ q. ap (standing_place (address_of places q)) (index_of-same g (with_field g id i x) q (λ k first few. length-with_field g id i x (made_by q.t k))))

-- so all handles hold what they held
handles-with_field : (places : Places) (v : View) (id : Id) (i : ℕ) (x : Val)
    → map (option_map (place_in places (with_field v.graph id i x))) v.registers ≡ map (option_map (place_in places v.graph)) v.registers
handles-with_field places v id i x = ap (λ (f : Id → Place). map (option_map f) v.registers) (place_in-with_field places v.graph id i x)

-- a write into an object of the space changes nothing of what is kept but the writes that may be taken back
pub kept_write : (places : Places) (v : View) (t : ℕ) (undo : List UndoEntry) (id : Id) (at i : ℕ) (x : Val) → HasMade places v.graph t v.made → address_of places id ≡ Some at
    → kept places (record v { graph = with_field v.graph id i x }) t undo ≡ kept places v t undo
kept_write places v t undo id at i x has place =
    ap (λ (hs : List (Option Place)). record { number = t; handles = hs; undo = undo; area = area_in places (record v { graph = with_field v.graph id i x }) t }) (handles-with_field places v id i x)
    ∙ ap (λ (area : AreaState). record (kept places v t undo) { area = area }) (write_area has id at i x place)

-- one into an object of the area writes the word there
pub kept_own_write : (places : Places) (v : View) (t : ℕ) (undo : List UndoEntry) (id : Id) (i : ℕ) (x : Val) → IsOwn t v.made id → i < length (fields v.graph id) → (now : List ℕ)
    → kept places (record v { graph = with_field v.graph id i x }) t undo ≡ with_written now (kept places v t undo) (Volatile (index_of v.graph id)) i (bits_of (place_of places v.graph) x)
kept_own_write places v t undo id i x own within now =
    ap (λ (hs : List (Option Place)). record { number = t; handles = hs; undo = undo; area = area_in places (record v { graph = with_field v.graph id i x }) t }) (handles-with_field places v id i x)
    ∙ ap (λ (area : AreaState). record (kept places v t undo) { area = area }) (own_write_area places v.graph t v.made id i x own within)
