-- Laws of a graph that stands in words: where its objects are, which words its fields have, and what these mean.
use Rattle.std.proofs.Common.{Contains, List, None, Some, [], ap, arith, drop, get_or, get_or-drop, get_or-take, inl, inr, length, map, refl, slice_index, slice_index_or, subst, sym, unwrap_or, ℕ, ◌+◌, ◌<◌, ◌∙◌, ◌≡◌, ◌≤◌, ◌⊎◌}
use Rattle.std.proofs.lemmas.List.{get_or-map}
use Rattle.std.proofs.lemmas.Option.{same_Some}
use Rattle.std.specs.FinMap.{get}
use Rattle.heap_words.specs.Word.{IsFieldWord, IsWord, meaning}
use Rattle.heap_words.proofs.WordLaws.{meaning-bits}
use Rattle.heap_words.specs.declared.Word.{Word}
use Rattle.heap_words.specs.declared.Word.TheVariants as word
use Rattle.graph_model.specs.Graph.{Graph, fields}
use Rattle.graph_model.specs.declared.id.Id.{Id}
use Rattle.graph_model.specs.declared.val.Val.{Val}
use Rattle.graph_model.specs.declared.val.Val.TheVariants.{Int, Null, Ref}
use Rattle.object_layout.specs.Layout.{field_words, object_at}
use Rattle.object_layout.proofs.LayoutLaws.{object_small}
use Rattle.object_layout.proofs.ObjectLaws.{end_to_end_begins, end_to_end_field, field_words_at}
use Rattle.object_layout.specs.Walk.{used_words, AreEndToEnd}
use Rattle.object_layout.proofs.WalkLaws.{object_take, object_take_end}
use Rattle.object_layout.proofs.WalkedLaws.{end_to_end_object}
use Rattle.log_machine.specs.declared.UndoEntry.{UndoEntry}
use Rattle.log_machine.specs.Machine.{field_at}
use Rattle.log_machine.specs.UndoEntry.{LiesInside}
use Rattle.graph_words.specs.Area.{HasMade}
use Rattle.graph_words.specs.Places.{IsAtHand, IsVisible, Places, address_of, addresses, bits_of, index_of, place_of, word_of}
use Rattle.graph_words.proofs.Places.Addresses.{address_of-Contains, address_of-one, index_of-one, named_at, own_made, own_within, some_address}
use Rattle.graph_words.specs.Stands.{Stands, StandsAt, IsOfField}
use Rattle.graph_words.proofs.Stands.Visible.{place_of-apart, place_of-placed}

-- The objects.

-- an object of a place is in the graph
pub stands_get : {t made : ℕ} {places : Places} {g : Graph} {words : List ℕ} {base used : ℕ} → Stands t made places g words base used
    → (id : Id) (at : ℕ) → address_of places id ≡ Some at → get g id ≡ Some (fields g id)
stands_get {g = g} stands id at is = let there = stands.each id at is in there.is ∙ ap (λ o. Some (unwrap_or o [])) (sym there.is)

the_fields : (g : Graph) (id : Id) (vs : List Val) → get g id ≡ Some vs → fields g id ≡ vs
the_fields g id vs is = ap (λ o. unwrap_or o []) is

-- and stands at its address, with a header that gives its length
pub stands_object : {t made : ℕ} {places : Places} {g : Graph} {words : List ℕ} {base used : ℕ} → Stands t made places g words base used
    → (id : Id) (at : ℕ) → address_of places id ≡ Some at → object_at words at ≡ Some (length (fields g id))
stands_object {g = g} stands id at is =
    let there = stands.each id at is in
    there.object ∙ ap (λ vs. Some (length vs)) (sym (the_fields g id there.values there.is))

-- each field's word is that of its value
pub stands_words : {t made : ℕ} {places : Places} {g : Graph} {words : List ℕ} {base used : ℕ} → Stands t made places g words base used
    → (id : Id) (at : ℕ) → address_of places id ≡ Some at → field_words words at ≡ map (bits_of (place_of places g)) (fields g id)
stands_words {places = places} {g = g} stands id at is =
    let there = stands.each id at is in
    there.fields ∙ ap (map (bits_of (place_of places g))) (sym (the_fields g id there.values there.is))

-- an object of a graph stands where its fields, as the graph has them, do
pub stands_at : (place : Id → Word) (g : Graph) (words : List ℕ) (id : Id) (at : ℕ) → get g id ≡ Some (fields g id) → object_at words at ≡ Some (length (fields g id))
    → field_words words at ≡ map (bits_of place) (fields g id) → StandsAt place g words id at
stands_at place g words id at is object words_are = record { values = fields g id; is = is; object = object; fields = words_are }

-- it ends within the used words
pub stands_used_object : {t made : ℕ} {places : Places} {g : Graph} {words : List ℕ} {base used : ℕ} → Stands t made places g words base used
    → (id : Id) (at : ℕ) → address_of places id ≡ Some at → object_at (used_words words base used) at ≡ Some (length (fields g id))
stands_used_object {places = places} {g = g} {words = words} {base = base} {used = used} stands id at is =
    let there = end_to_end_object (used_words words base used) base (addresses places) (base + used) at stands.ends (address_of-Contains places id at is) in
    let whole = object_take words (base + used) at there.0 there.1 in
    there.1 ∙ sym whole ∙ stands_object stands id at is

-- An object lies within the used words of a space: it starts there, with `fields` fields.
pub record LiesWithin (base used at fields : ℕ) : Type 0 where
  pub above : base ≤ at
  pub below : at + 2 + fields ≤ base + used

-- each of the objects end to end in them does
pub ends_within : (words : List ℕ) (base used : ℕ) (starts : List ℕ) → AreEndToEnd (used_words words base used) base starts (base + used)
    → (at n : ℕ) → Contains starts at → object_at words at ≡ Some n → LiesWithin base used at n
ends_within words base used starts ends at n has object =
    let there = end_to_end_object (used_words words base used) base starts (base + used) at ends has in
    let same : there.0 ≡ n = same_Some there.0 n (sym (object_take words (base + used) at there.0 there.1) ∙ object) in
    record {
      above = end_to_end_begins (used_words words base used) base starts (base + used) at ends has;
      below = object_take_end words (base + used) at n (there.1 ∙ ap Some same);
    }

-- so does each object of a graph that stands there
pub stands_within : {t made : ℕ} {places : Places} {g : Graph} {words : List ℕ} {base used : ℕ} → Stands t made places g words base used
    → (id : Id) (at : ℕ) → address_of places id ≡ Some at → LiesWithin base used at (length (fields g id))
stands_within {places = places} {g = g} {words = words} {base = base} {used = used} stands id at is =
    ends_within words base used (addresses places) stands.ends at (length (fields g id)) (address_of-Contains places id at is) (stands_object stands id at is)

-- an object has at most 510 fields
pub stands_short : {t made : ℕ} {places : Places} {g : Graph} {words : List ℕ} {base used : ℕ} → Stands t made places g words base used
    → (id : Id) (at : ℕ) → address_of places id ≡ Some at → length (fields g id) ≤ 510
stands_short {g = g} {words = words} stands id at is = let small = object_small words at (length (fields g id)) (stands_object stands id at is) in omega arith

-- two objects that stand at one address are one
pub stands_one : {t made : ℕ} {places : Places} {g : Graph} {words : List ℕ} {base used : ℕ} → Stands t made places g words base used
    → (a b : Id) (at : ℕ) → address_of places a ≡ Some at → address_of places b ≡ Some at → a ≡ b
stands_one {places = places} {words = words} {base = base} {used = used} stands a b at one other =
    address_of-one (used_words words base used) base places (base + used) at a b stands.ends one other

-- at each address stands an object
pub stands_placed : {t made : ℕ} {places : Places} {g : Graph} {words : List ℕ} {base used : ℕ} → Stands t made places g words base used
    → (at : ℕ) → Contains (addresses places) at → (id : Id) × (address_of places id ≡ Some at)
stands_placed {places = places} stands at has = named_at places at stands.names has

-- a field of an object is another's no word, or the two are one
pub stands_field_apart : {t made : ℕ} {places : Places} {g : Graph} {words : List ℕ} {base used : ℕ} → Stands t made places g words base used
    → (a b : Id) (at to i : ℕ) → address_of places a ≡ Some at → address_of places b ≡ Some to → i < length (fields g a)
    → (a ≡ b) ⊎ ((field_at at i < to) ⊎ (to + 2 + length (fields g b) ≤ field_at at i))
stands_field_apart {places = places} {g = g} {words = words} {base = base} {used = used} stands a b at to i one other within =
    elim (end_to_end_field (used_words words base used) base (addresses places) (base + used) at (length (fields g a)) to (length (fields g b)) i
    stands.ends (address_of-Contains places a at one) (stands_used_object stands a at one) (address_of-Contains places b to other) (stands_used_object stands b to other) within) [
      | inl same ↦ inl (stands_one stands a b to (one ∙ ap Some same) other)
      | inr beside ↦ inr beside
    ]

-- The fields.

-- so does a write of a field of such an object
pub field_inside : (base used n : ℕ) (u : UndoEntry) → LiesWithin base used u.object n → u.field < n → LiesInside base used u
field_inside base used n u lies field = let ends = lies.below in record { above = lies.above; below = omega arith }

-- and one of an object of the graph
pub stands_inside : {t made : ℕ} {places : Places} {g : Graph} {words : List ℕ} {base used : ℕ} → Stands t made places g words base used
    → (u : UndoEntry) → IsOfField places g u → LiesInside base used u
stands_inside {g = g} {base = base} {used = used} stands u one = field_inside base used (length (fields g one.id)) u (stands_within stands one.id u.object one.object) one.field

-- two fields at one address are one
pub stands_field_one : {t made : ℕ} {places : Places} {g : Graph} {words : List ℕ} {base used : ℕ} → Stands t made places g words base used
    → (a b : Id) (at to i j : ℕ) → address_of places a ≡ Some at → address_of places b ≡ Some to → i < length (fields g a) → j < length (fields g b)
    → field_at at i ≡ field_at to j → (a ≡ b) × (i ≡ j)
stands_field_one {places = places} stands a b at to i j one other within within' same = elim (stands_field_apart stands a b at to i one other within) [
  | inl equal ↦
      let place : at ≡ to = same_Some at to (sym one ∙ ap (address_of places) equal ∙ other) in
      (equal, omega arith)
  | inr (inl before) ↦ absurd (omega arith)
  | inr (inr later) ↦ absurd (omega arith)
]

-- the word at the address of a field is the field's
pub word_at_field : (words : List ℕ) (at n i : ℕ) → object_at words at ≡ Some n → i < n → slice_index words (field_at at i) ≡ get_or (field_words words at) i 0
word_at_field words at n i is within =
    sym (ap (λ ws. get_or ws i 0) (field_words_at words at n is) ∙ get_or-take n (drop (at + 2) words) i 0 within ∙ get_or-drop (at + 2) words i 0)

-- the word at a field's address is that of its value
pub stands_field : {t made : ℕ} {places : Places} {g : Graph} {words : List ℕ} {base used : ℕ} → Stands t made places g words base used
    → (id : Id) (at i : ℕ) → address_of places id ≡ Some at → i < length (fields g id)
    → slice_index words (field_at at i) ≡ bits_of (place_of places g) (slice_index_or (fields g id) i Null)
stands_field {places = places} {g = g} {words = words} stands id at i is within =
    word_at_field words at (length (fields g id)) i (stands_object stands id at is) within
    ∙ ap (λ ws. get_or ws i 0) (stands_words stands id at is)
    ∙ get_or-map (bits_of (place_of places g)) (fields g id) i Null 0 within

-- What words mean.

-- a word says where an object at hand stands
pub at_hand_word : {t made : ℕ} {places : Places} {g : Graph} {words : List ℕ} {base used : ℕ} → Stands t made places g words base used → HasMade places g t made
    → (id : Id) → IsAtHand places t made id → IsWord (place_of places g id)
at_hand_word {places = places} {g = g} {base = base} stands has id (inl there) =
    let place = some_address (address_of places id) there in
    let within = stands_within stands id place.0 place.1 in
    let below = within.below in
    let top = stands.below in
    let small : place.0 < 2097152 = omega arith in
    subst IsWord (sym (place_of-placed places g id place.0 place.1)) small
at_hand_word {t} {made} {places = places} {g = g} stands has id (inr own) =
    let apart : address_of places id ≡ None = ap (address_of places) (own_made t made id own) ∙ has.apart id.k in
    let within = own_within g t made id own in
    let few = has.few in
    let small : index_of g id < 4096 = omega arith in
    subst IsWord (sym (place_of-apart places g id apart)) small

-- a value that is seen has a word
pub visible_word : {t made : ℕ} {places : Places} {g : Graph} {words : List ℕ} {base used : ℕ} → Stands t made places g words base used → HasMade places g t made
    → (v : Val) → IsVisible places t made v → IsWord (word_of (place_of places g) v)
visible_word stands has Null seen = tt
visible_word stands has (Int n) seen = seen
visible_word stands has (Ref id) seen = at_hand_word stands has id seen

-- which a field may have
pub visible_field_word : {t made : ℕ} {places : Places} {g : Graph} {words : List ℕ} {base used : ℕ} → Stands t made places g words base used → HasMade places g t made
    → (v : Val) → IsVisible places t made v → IsFieldWord (bits_of (place_of places g) v)
visible_field_word {places = places} {g = g} stands has v seen = (word_of (place_of places g) v, visible_word stands has v seen, refl)

-- and which is read as it was written
pub visible_meaning : {t made : ℕ} {places : Places} {g : Graph} {words : List ℕ} {base used : ℕ} → Stands t made places g words base used → HasMade places g t made
    → (v : Val) → IsVisible places t made v → meaning (bits_of (place_of places g) v) ≡ Some (word_of (place_of places g) v)
visible_meaning {places = places} {g = g} stands has v seen = meaning-bits (word_of (place_of places g) v) (visible_word stands has v seen)

two_addresses : (at to : ℕ) → word.Stable at ≡ word.Stable to → at ≡ to
two_addresses at to same = cc

two_indexes : (at to : ℕ) → word.Volatile at ≡ word.Volatile to → at ≡ to
two_indexes at to same = cc

-- where an object at hand stands distinguishes it from all others at hand
pub place_of-one : {t made : ℕ} {places : Places} {g : Graph} {words : List ℕ} {base used : ℕ} → Stands t made places g words base used → HasMade places g t made
    → (a b : Id) → IsAtHand places t made a → IsAtHand places t made b → place_of places g a ≡ place_of places g b → a ≡ b
place_of-one {places = places} {g = g} stands has a b (inl one) (inl other) same =
    let here = some_address (address_of places a) one in
    let there = some_address (address_of places b) other in
    let place = two_addresses here.0 there.0 (sym (place_of-placed places g a here.0 here.1) ∙ same ∙ place_of-placed places g b there.0 there.1) in
    stands_one stands a b there.0 (here.1 ∙ ap Some place) there.1
place_of-one {t} {made} {places = places} {g = g} stands has a b (inl one) (inr other) same =
    let here = some_address (address_of places a) one in
    let apart : address_of places b ≡ None = ap (address_of places) (own_made t made b other) ∙ has.apart b.k in
    let clash = sym (place_of-placed places g a here.0 here.1) ∙ same ∙ place_of-apart places g b apart in cc
place_of-one {t} {made} {places = places} {g = g} stands has a b (inr one) (inl other) same =
    let there = some_address (address_of places b) other in
    let apart : address_of places a ≡ None = ap (address_of places) (own_made t made a one) ∙ has.apart a.k in
    let clash = sym (place_of-placed places g b there.0 there.1) ∙ sym same ∙ place_of-apart places g a apart in cc
place_of-one {t} {made} {places = places} {g = g} stands has a b (inr one) (inr other) same =
    let apart : address_of places a ≡ None = ap (address_of places) (own_made t made a one) ∙ has.apart a.k in
    let apart' : address_of places b ≡ None = ap (address_of places) (own_made t made b other) ∙ has.apart b.k in
    index_of-one g t made a b one other (two_indexes (index_of g a) (index_of g b) (sym (place_of-apart places g a apart) ∙ same ∙ place_of-apart places g b apart'))
