-- The volatile area of a transaction, as the graph that it sees gives the words.
use Rattle.std.proofs.Common.{Some, ap, length, map, subst, sym, ℕ, ◌+◌, ◌<◌, ◌∙◌, ◌≡◌}
use Rattle.heap_words.specs.Header.{birth_bits}
use Rattle.graph_model.specs.Graph.{Graph, fields, with_field}
use Rattle.graph_model.specs.declared.id.Id.{Id}
use Rattle.graph_model.specs.declared.val.Val.{Val}
use Rattle.object_layout.specs.Layout.{birth_at, field_words, object_at}
use Rattle.graph_words.specs.Area.{HasMade, area_of, area_words}
use Rattle.graph_words.proofs.Area.Starts.{area_starts}
use Rattle.graph_words.proofs.Area.Words.{AreShort, area_birth, area_ends, area_fields, area_object, length-area_starts}
use Rattle.graph_words.proofs.Area.Write.{new_area_words, own_write_area_words, write_area_words}
use Rattle.graph_words.proofs.Area.Made.{made_short}
use Rattle.graph_words.specs.Places.{IsOwn, Places, address_of, area_used, bits_of, index_of, place_of}
use Rattle.graph_words.proofs.Places.Addresses.{own_made}
use Rattle.graph_words.proofs.Stands.Own.{with_new}
use Rattle.volatile_area.specs.Area as area
use Rattle.volatile_area.specs.Area.{starts_from, starts_of, with_object}
use Rattle.volatile_area.proofs.ObjectLaws.{starts_from-end_to_end}

short : {places : Places} {g : Graph} {t made : ℕ} → HasMade places g t made → AreShort g t made
short has k first last = made_short has k first last

-- its objects start at their indices
pub starts_of-area_of : {places : Places} {g : Graph} {t made : ℕ} → HasMade places g t made → starts_of (area_of (place_of places g) g t made) ≡ area_starts g t made
starts_of-area_of {places} {g} {t} {made} has =
    let ws = area_words (place_of places g) g t made in
    ap (λ k. starts_from k ws 0) (sym (length-area_starts g t made))
    ∙ starts_from-end_to_end ws 0 (area_starts g t made) (area_used g t made) (area_ends (place_of places g) g t made (short has))

-- it stands there
pub own_object : {places : Places} {g : Graph} {t made : ℕ} → HasMade places g t made → (id : Id) → IsOwn t made id
    → object_at (area_words (place_of places g) g t made) (index_of g id) ≡ Some (length (fields g id))
own_object {places} {g} {t} {made} has id own =
    let Stands_there : Id → Type 0 = λ x. object_at (area_words (place_of places g) g t made) (index_of g x) ≡ Some (length (fields g x)) in
    subst Stands_there (sym (own_made t made id own)) (area_object (place_of places g) g t made (short has) id.k own.first own.last)

-- with its birth
pub own_birth : {places : Places} {g : Graph} {t made : ℕ} → HasMade places g t made → (id : Id) → IsOwn t made id
    → birth_at (area_words (place_of places g) g t made) (index_of g id) ≡ birth_bits id.t id.k
own_birth {places} {g} {t} {made} has id own =
    let Born : Id → Type 0 = λ x. birth_at (area_words (place_of places g) g t made) (index_of g x) ≡ birth_bits x.t x.k in
    subst Born (sym (own_made t made id own)) (area_birth (place_of places g) g t made (short has) id.k own.first own.last)

-- and the words of its values
pub own_words : {places : Places} {g : Graph} {t made : ℕ} → HasMade places g t made → (id : Id) → IsOwn t made id
    → field_words (area_words (place_of places g) g t made) (index_of g id) ≡ map (bits_of (place_of places g)) (fields g id)
own_words {places} {g} {t} {made} has id own =
    let Has : Id → Type 0 = λ x. field_words (area_words (place_of places g) g t made) (index_of g x) ≡ map (bits_of (place_of places g)) (fields g x) in
    subst Has (sym (own_made t made id own)) (area_fields (place_of places g) g t made (short has) id.k own.first own.last)

-- What changes.

-- a write into an object that the transaction made writes the word of the value
pub own_write_area : (places : Places) (g : Graph) (t made : ℕ) (id : Id) (i : ℕ) (v : Val) → IsOwn t made id → i < length (fields g id)
    → area_of (place_of places (with_field g id i v)) (with_field g id i v) t made ≡ area.with_field (area_of (place_of places g) g t made) (index_of g id) i (bits_of (place_of places g) v)
own_write_area places g t made id i v own within =
    ap (λ ws. record { transaction = t; made = made; words = ws }) (own_write_area_words places g t made id i v own within)

-- one into an object that stands in the space writes nothing
pub write_area : {t made : ℕ} {places : Places} {g : Graph} → HasMade places g t made → (id : Id) (at i : ℕ) (v : Val) → address_of places id ≡ Some at
    → area_of (place_of places (with_field g id i v)) (with_field g id i v) t made ≡ area_of (place_of places g) g t made
write_area {t} {made} has id at i v is = ap (λ ws. record { transaction = t; made = made; words = ws }) (write_area_words has id at i v is)

-- a new object is one more
pub new_area : {t made : ℕ} {places : Places} {g : Graph} → HasMade places g t made → (len : ℕ)
    → area_of (place_of places (with_new g t made len)) (with_new g t made len) t (made + 1) ≡ with_object (area_of (place_of places g) g t made) len
new_area {t} {made} has len = ap (λ ws. record { transaction = t; made = made + 1; words = ws }) (new_area_words has len)
