-- A graph stands where its objects were relocated.
use Rattle.std.proofs.Common.{◌≡◌, ℕ, ◌+◌, ◌<◌, inl, inr, List, length, map, Option, None, Some, is_some, refl, sym, ap, ◌∙◌, subst, arith, ext_get_or}
use Rattle.std.specs.Prelude.{slice_index, slice_index_or}
use Rattle.std.proofs.lemmas.List.{get_or-map, length-map}
use Rattle.std.proofs.lemmas.Option.{same_Some}
use Rattle.heap_words.specs.declared.Word.{Word}
use Rattle.heap_words.specs.declared.Word.TheVariants as word
use Rattle.heap_words.specs.Word.{bits}
use Rattle.heap_words.proofs.WordLaws.{is_stable-bits}
use Rattle.graph_model.specs.Graph.{Graph, fields, root}
use Rattle.graph_model.specs.declared.id.Id.{Id}
use Rattle.graph_model.specs.declared.val.Val.{Val}
use Rattle.graph_model.specs.declared.val.Val.TheVariants.{Int, Null, Ref}
use Rattle.object_layout.specs.Layout.{field_words}
use Rattle.object_layout.specs.Walk.{IsRootAt, used_words}
use Rattle.object_layout.proofs.LayoutLaws.{length-field_words}
use Rattle.object_layout.proofs.WalkLaws.{object_take}
use Rattle.log_machine.proofs.ListLaws.{AllByRecursion-map}
use Rattle.log_machine.specs.Machine.{field_at}
use Rattle.graph_words.specs.Places.{IsVisible, Places, address_of, addresses, bits_of, index_of, place_of}
use Rattle.graph_words.proofs.Places.Addresses.{address_of-Contains, none_or_some, some_address}
use Rattle.graph_words.specs.Stands.{Stands, StandsAt}
use Rattle.graph_words.proofs.Stands.Objects.{stands_at, stands_field, stands_get, stands_object, stands_one, stands_within, word_at_field}
use Rattle.graph_words.proofs.Stands.Visible.{place_of-apart, place_of-placed}
use Rattle.collection_words.specs.Placed.{ArePlacedIn}
use Rattle.collection_words.specs.Relocated.{HasMoved, HaveSameIds, IsRelocated, IsRelocatedObject, IsRelocatedWord}
use Rattle.collection_words.proofs.Relocated.Fronts.{ends_front, front_birth, front_object}

-- Places.

there_too : (o q : Option ℕ) → is_some o ≡ is_some q → q ≡ None → o ≡ None
there_too None q same none = refl
there_too (Some a) q same none = let clash = same ∙ ap is_some none in cc

-- an object that has no place here has none there
pub same_none : (places others : Places) → HaveSameIds places others → (id : Id) → address_of places id ≡ None → address_of others id ≡ None
same_none places others same id none = there_too (address_of others id) (address_of places id) (sym (same id)) none

-- and the other way round
pub same_source : (places others : Places) → HaveSameIds places others → (id : Id) (to : ℕ) → address_of others id ≡ Some to → (at : ℕ) × HasMoved places others id at to
same_source places others same id to is =
    let there = some_address (address_of places id) (same id ∙ ap is_some is) in
    (there.0, record { before = there.1; after = is })

-- Values.

relocated_stable : {t made : ℕ} {places : Places} {g : Graph} {words : List ℕ} {base used : ℕ} (others : Places) → Stands t made places g words base used
    → (id : Id) (at w : ℕ) → address_of places id ≡ Some at → IsRelocatedWord places others (bits (word.Stable at)) w → w ≡ bits_of (place_of others g) (Ref id)
relocated_stable others stands id at w is (inl plain) =
    let within = stands_within stands id at is in
    let close = within.below in
    let top = stands.below in
    let small : at < 2097152 = omega arith in
    let clash = sym (is_stable-bits (word.Stable at) small) ∙ plain.0 in cc
relocated_stable {places = places} {g = g} others stands id at w is (inr led) =
    let same_address : at ≡ led.at = let equal = led.was in omega arith in
    let one : id ≡ led.id = stands_one stands id led.id led.at (is ∙ ap Some same_address) led.moved.before in
    let there : address_of others id ≡ Some led.to = ap (address_of others) one ∙ led.moved.after in
    led.is ∙ ap bits (sym (place_of-placed others g id led.to there))

relocated_apart : {places : Places} (others : Places) (g : Graph) → HaveSameIds places others → (id : Id) (w : ℕ) → address_of places id ≡ None
    → IsRelocatedWord places others (bits (word.Volatile (index_of g id))) w → w ≡ bits_of (place_of others g) (Ref id)
relocated_apart {places} others g same id w none (inl plain) = plain.1 ∙ ap bits (sym (place_of-apart others g id (same_none places others same id none)))
relocated_apart {places} others g same id w none (inr led) = let equal = led.was in absurd (omega arith)

-- the word of a value is that of the value
pub relocated_value : {t made : ℕ} {places : Places} {g : Graph} {words : List ℕ} {base used : ℕ} (others : Places) → Stands t made places g words base used → HaveSameIds places others
    → (v : Val) (w : ℕ) → IsRelocatedWord places others (bits_of (place_of places g) v) w → w ≡ bits_of (place_of others g) v
relocated_value others stands same Null w (inl plain) = plain.1
relocated_value others stands same Null w (inr led) = let equal = led.was in absurd (omega arith)
relocated_value others stands same (Int n) w (inl plain) = plain.1
relocated_value others stands same (Int n) w (inr led) = let equal = led.was in absurd (omega arith)
relocated_value {places = places} {g = g} others stands same (Ref id) w is = elim (none_or_some (address_of places id)) [
  | inl none ↦ relocated_apart others g same id w none (subst (λ (x : Word). IsRelocatedWord places others (bits x) w) (place_of-apart places g id none) is)
  | inr there ↦ relocated_stable others stands id there.0 w there.1 (subst (λ (x : Word). IsRelocatedWord places others (bits x) w) (place_of-placed places g id there.0 there.1) is)
]

-- what is at hand here is at hand there
pub relocated_visible : (places others : Places) (t made : ℕ) → HaveSameIds places others → (v : Val) → IsVisible places t made v → IsVisible others t made v
relocated_visible places others t made same Null seen = tt
relocated_visible places others t made same (Int n) seen = seen
relocated_visible places others t made same (Ref id) (inl there) = inl (sym (same id) ∙ there)
relocated_visible places others t made same (Ref id) (inr own) = inr own

-- Objects.

relocated_fields : {t made : ℕ} {places : Places} {g : Graph} {words : List ℕ} {base used : ℕ} (others : Places) (moved : List ℕ) → Stands t made places g words base used → HaveSameIds places others
    → (id : Id) (at to : ℕ) → address_of places id ≡ Some at → (object : IsRelocatedObject places others words moved at to) → object.fields ≡ length (fields g id)
    → field_words moved to ≡ map (bits_of (place_of others g)) (fields g id)
relocated_fields {places = places} {g = g} {words = words} others moved stands same id at to is object long =
    let many = length-field_words moved to object.fields object.is in
    let size = length-map (fields g id) (bits_of (place_of others g)) in
    ext_get_or 0 (field_words moved to) (map (bits_of (place_of others g)) (fields g id)) (omega arith) (λ i below.
    let within : i < object.fields = omega arith in
    let value = slice_index_or (fields g id) i Null in
    let inside : i < length (fields g id) = omega arith in
    sym (word_at_field moved to object.fields i object.is within)
    ∙ relocated_value others stands same value (slice_index moved (field_at to i))
    (subst (λ (x : ℕ). IsRelocatedWord places others x (slice_index moved (field_at to i))) (stands_field stands id at i is inside) (object.led i within))
    ∙ sym (get_or-map (bits_of (place_of others g)) (fields g id) i Null 0 inside))

relocated_at : {t made : ℕ} {places : Places} {g : Graph} {words : List ℕ} {base used : ℕ} (others : Places) (moved : List ℕ) → Stands t made places g words base used → IsRelocated places others words moved
    → (id : Id) (to : ℕ) → address_of others id ≡ Some to → StandsAt (place_of others g) g moved id to
relocated_at {places = places} {g = g} others moved stands is id to there =
    let source = same_source places others is.same id to there in
    let object = is.each id source.0 to source.1 in
    let place = source.1.before in
    let long = same_Some object.fields (length (fields g id)) (sym object.was ∙ stands_object stands id source.0 place) in
    stands_at (place_of others g) g moved id to (stands_get stands id source.0 place) (object.is ∙ ap Some long)
    (relocated_fields others moved stands is.same id source.0 to place object long)

relocated_root : {t made : ℕ} {places : Places} {g : Graph} {words : List ℕ} {base used : ℕ} (others : Places) (moved : List ℕ) (new_base new_used : ℕ) → Stands t made places g words base used
    → ArePlacedIn others moved new_base new_used → IsRelocated places others words moved → IsRootAt (used_words moved new_base new_used) new_base
relocated_root {places = places} {words = words} {base = base} {used = used} others moved new_base new_used stands placed is =
    let object = is.each root base new_base (record { before = stands.root_place; after = placed.root_place }) in
    let length_was = stands.root_object.length in
    let four = same_Some object.fields 4 (sym object.was ∙ object_take words (base + used) base 4 length_was) in
    let root_there = front_object moved new_base (addresses others) (new_base + new_used) new_base object.fields placed.ends (address_of-Contains others root new_base placed.root_place) object.is in
    record {
      length = root_there ∙ ap Some four;
      birth = front_birth moved (new_base + new_used) new_base object.fields root_there ∙ object.birth ∙ sym (front_birth words (base + used) base 4 length_was) ∙ stands.root_object.birth;
    }

-- A graph stands where its objects were relocated, which fill the used words of a space there.
pub relocated_stands : {t made : ℕ} {places : Places} {g : Graph} {words : List ℕ} {base used : ℕ} (others : Places) (moved : List ℕ) (new_base new_used : ℕ) → Stands t made places g words base used
    → ArePlacedIn others moved new_base new_used → IsRelocated places others words moved → Stands t made others g moved new_base new_used
relocated_stands {t} {made} {places} {g} others moved new_base new_used stands placed is = record {
  below = placed.below;
  ends = ends_front moved (new_base + new_used) new_base (addresses others) (new_base + new_used) (omega arith) placed.ends;
  root_object = relocated_root others moved new_base new_used stands placed is;
  root_place = placed.root_place;
  names = placed.names;
  each = relocated_at others moved stands is;
  visible = λ id to there.
      let source = same_source places others is.same id to there in
      AllByRecursion-map (IsVisible places t made) (IsVisible others t made) (fields g id) (relocated_visible places others t made is.same) (stands.visible id source.0 source.1.before);
}
