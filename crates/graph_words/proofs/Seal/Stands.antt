-- The graph stands after a seal: where it stood, the promoted objects at their new addresses, and no reference leads to the transaction's area.
use Rattle.std.proofs.Common.{◌≡◌, ℕ, ◌≤◌, ◌+◌, inl, inr, List, [], ◌∷◌, ◌++◌, map, length, Some, refl, sym, ap, ◌∙◌, subst, arith}
use Rattle.std.specs.Prelude.{Contains}
use Rattle.std.specs.List.{AllByRecursion}
use Rattle.std.proofs.lemmas.List.{length-map, get_or-take}
use Rattle.std.proofs.lemmas.Option.{same_Some}
use Rattle.graph_model.specs.declared.id.Id.{Id}
use Rattle.graph_model.specs.Graph.{fields, root}
use Rattle.log_machine.proofs.ListLaws.{AllByRecursion-append, AllByRecursion-map}
use Rattle.object_layout.specs.Layout.{object_at, field_words, id_at}
use Rattle.object_layout.proofs.ObjectLaws.{object_in_take}
use Rattle.object_layout.specs.Walk.{AreEndToEnd, IsRootAt, used_words}
use Rattle.object_layout.proofs.WalkLaws.{Contains-head, Contains-rest, object_take, object_take_end}
use Rattle.volatile_area.specs.Area.{AreaState}
use Rattle.graph_words.proofs.Area.State.{own_words}
use Rattle.graph_words.proofs.Area.Made.{own_get, own_visible}
use Rattle.graph_words.specs.Places.{address_of, addresses, index_of, bits_of, IsVisible}
use Rattle.graph_words.specs.Stands.{StandsAt, StandsCommitted}
use Rattle.graph_words.proofs.Stands.Objects.{stands_get, stands_object, stands_words, stands_placed, stands_at}
use Rattle.graph_words.specs.Promotion.{Move, words_taken, moves_to, moved, moved_word, promoted_places}
use Rattle.graph_words.proofs.Places.Moves.{moved_of, moved_given, words_needed}
use Rattle.graph_words.proofs.Stands.ReadBack.{changed_object, changed_field_words}
use Rattle.graph_words.proofs.Seal.Sealing.{Sealing, IsSealing, Appends, area, moves, need, later_words, later_places, later_place}
use Rattle.graph_words.proofs.Seal.Places.{addresses-append, addresses-promoted}
use Rattle.graph_words.proofs.Seal.Values.{own_at, later_old, later_own, later_cases, IsPromotedTo, map_moved_bits, moved_into}
use Rattle.graph_words.proofs.Seal.Fields.{placed_visible, promoted_visible, own_length}
use Rattle.graph_words.proofs.Seal.Words.{later_changed, later_object}

-- Objects end to end.

-- objects stay end to end in other words where each of them stands there too
pub ends_on : (words others : List ℕ) (from : ℕ) (starts : List ℕ) (end : ℕ) → AreEndToEnd words from starts end
    → ((at n : ℕ) → Contains starts at → object_at words at ≡ Some n → object_at others at ≡ Some n) → AreEndToEnd others from starts end
ends_on words others from [] end ends each = ends
ends_on words others from (a ∷ rest) end (n, same, object, more) each = (
  n,
  same,
  each a n (Contains-head a rest) object,
  ends_on words others (a + 2 + n) rest end more (λ at m has. each at m (Contains-rest a rest at has)),
)

-- and others that begin where they end
pub ends_append : (words : List ℕ) (from : ℕ) (xs ys : List ℕ) (mid end : ℕ) → AreEndToEnd words from xs mid → AreEndToEnd words mid ys end → AreEndToEnd words from (xs ++ ys) end
ends_append words from [] ys mid end one two = subst (λ (x : ℕ). AreEndToEnd words x ys end) (sym one) two
ends_append words from (a ∷ rest) ys mid end (n, same, object, more) two = (n, same, object, ends_append words (a + 2 + n) rest ys mid end more two)

-- objects that move stand end to end at their new addresses
pub ends_moved : (area : AreaState) (words : List ℕ) (starts : List ℕ) (address : ℕ)
    → ((m : Move) → Contains (moves_to area starts address) m → object_at words m.1 ≡ Some (length (field_words area.words m.0)))
    → AreEndToEnd words address (map (λ m. m.1) (moves_to area starts address)) (address + words_needed area starts)
ends_moved area words [] address each = omega arith
ends_moved area words (at ∷ rest) address each =
    let n = length (field_words area.words at) in
    let ms = moves_to area rest (address + words_taken area at) in
    let Ends : ℕ → ℕ → Type 0 = λ from end. AreEndToEnd words from (map (λ m. m.1) ms) end in
    let later = ends_moved area words rest (address + words_taken area at) (λ m has. each m (Contains-rest (at, address) ms m has)) in
    let next : address + words_taken area at ≡ address + 2 + n = omega arith in
    let stop : address + words_taken area at + words_needed area rest ≡ address + words_needed area (at ∷ rest) = omega arith in
    (n, refl, each (at, address) (Contains-head (at, address) ms), subst (λ (x : ℕ). Ends (address + 2 + n) x) stop (subst (λ (x : ℕ). Ends x (address + words_taken area at + words_needed area rest)) next later))

-- Each object.

-- one that stood in the space stands where it did
pub later_old_object : (c : Sealing) → Appends c → (id : Id) (at : ℕ) → address_of c.places id ≡ Some at → object_at (later_words c) at ≡ Some (length (fields c.g id))
later_old_object c is id at there =
    changed_object (moved_word (moves c)) c.words (later_words c) at (length (fields c.g id)) (stands_object is.sealing.stands id at there) (later_changed c is id at there)

old_words : (c : Sealing) → Appends c → (id : Id) (at : ℕ) → address_of c.places id ≡ Some at → field_words (later_words c) at ≡ map (bits_of (later_place c)) (fields c.g id)
old_words c is id at there =
    changed_field_words (moved_word (moves c)) c.words (later_words c) at (length (fields c.g id)) (stands_object is.sealing.stands id at there) (later_changed c is id at there)
    ∙ ap (map (moved_word (moves c))) (stands_words is.sealing.stands id at there)
    ∙ map_moved_bits c is.sealing (fields c.g id) (is.sealing.stands.visible id at there)

-- A promoted object lies within the words that the seal gives.
pub record EndsWithin (c : Sealing) (id : Id) (new : ℕ) : Type 0 where
  pub taken : Contains c.starts (index_of c.g id)
  pub above : c.address ≤ new
  pub below : new + 2 + length (fields c.g id) ≤ c.address + need c

-- each that is promoted does
pub promoted_within : (c : Sealing) → IsSealing c → (id : Id) (new : ℕ) → IsPromotedTo c id new → EndsWithin c id new
promoted_within c is id new to =
    let has = moved_given (area c) c.starts c.address (index_of c.g id) new to.moves_there in
    let into = moved_into c (index_of c.g id) has in
    let same = same_Some into.new new (sym into.is ∙ to.moves_there) in
    let above = into.above in
    let below = into.below in
    record { taken = has; above = omega arith; below = omega (arith, own_length c is id to.own) }

new_object : (c : Sealing) → Appends c → (id : Id) (new : ℕ) → IsPromotedTo c id new → object_at (later_words c) new ≡ Some (length (fields c.g id))
new_object c is id new to =
    (later_object c is id new to.own to.moves_there (promoted_within c is.sealing id new to).above).object
    ∙ ap Some (length-map (field_words (area c).words (index_of c.g id)) (moved_word (moves c)) ∙ own_length c is.sealing id to.own)

new_words : (c : Sealing) → Appends c → (id : Id) (new : ℕ) → IsPromotedTo c id new → field_words (later_words c) new ≡ map (bits_of (later_place c)) (fields c.g id)
new_words c is id new to =
    (later_object c is id new to.own to.moves_there (promoted_within c is.sealing id new to).above).fields_words
    ∙ ap (map (moved_word (moves c))) (own_words is.sealing.has id to.own)
    ∙ map_moved_bits c is.sealing (fields c.g id) (own_visible is.sealing.has to.own)

later_each : (c : Sealing) → Appends c → (id : Id) (at : ℕ) → address_of (later_places c) id ≡ Some at → StandsAt (later_place c) c.g (later_words c) id at
later_each c is id at there = elim (later_cases c is.sealing id at there) [
  | inl old ↦ stands_at (later_place c) c.g (later_words c) id at (stands_get is.sealing.stands id at old) (later_old_object c is id at old) (old_words c is id at old)
  | inr to ↦ stands_at (later_place c) c.g (later_words c) id at (own_get is.sealing.has to.own) (new_object c is id at to) (new_words c is id at to)
]

later_visible : (c : Sealing) → IsSealing c → (id : Id) (at : ℕ) → address_of (later_places c) id ≡ Some at → AllByRecursion (IsVisible (later_places c) 0 0) (fields c.g id)
later_visible c is id at there = elim (later_cases c is id at there) [
  | inl old ↦ placed_visible c is id at old
  | inr to ↦ promoted_visible c is id to.own (promoted_within c is id at to).taken
]

-- All of them.

-- what holds of each element's image holds of each of a map
pub all_of_map : {X Y : Type 0} (P : Y → Type 0) (f : X → Y) (xs : List X) → ((x : X) → Contains xs x → P (f x)) → AllByRecursion P (map f xs)
all_of_map P f [] each = tt
all_of_map P f (x ∷ xs) each = (each x (Contains-head x xs), all_of_map P f xs (λ y has. each y (Contains-rest x xs y has)))

-- An object that moves, by its name.
pub record IsMoveOf (c : Sealing) (m : Move) : Type 0 where
  pub id : Id
  pub index : index_of c.g id ≡ m.0
  pub name : id_at (area c).words m.0 ≡ id
  pub to : IsPromotedTo c id m.1

-- each move is of such
pub move_of : (c : Sealing) → IsSealing c → (m : Move) → Contains (moves c) m → IsMoveOf c m
move_of c is m has =
    let there = moved_of (area c) c.starts c.address m is.promotion.distinct has in
    let own = own_at c is m.0 there.0 in
    record { id = own.id; index = own.index; name = own.name; to = record { own = own.own; moves_there = ap (moved (moves c)) own.index ∙ there.1 } }

later_names : (c : Sealing) → IsSealing c → AllByRecursion (λ p. address_of (later_places c) p.0 ≡ Some p.1) (later_places c)
later_names c is =
    let Named : Id × ℕ → Type 0 = λ p. address_of (later_places c) p.0 ≡ Some p.1 in
    AllByRecursion-append Named c.places (promoted_places (area c) (moves c))
    (AllByRecursion-map (λ p. address_of c.places p.0 ≡ Some p.1) Named c.places (λ p there. later_old c p.0 p.1 there) is.stands.names)
    (all_of_map Named (λ (m : Move). (id_at (area c).words m.0, m.1)) (moves c) (λ m has.
    let one = move_of c is m has in
    ap (address_of (later_places c)) one.name ∙ later_own c is one.id one.to.own ∙ one.to.moves_there))

old_ends : (c : Sealing) → Appends c → AreEndToEnd (used_words (later_words c) c.base (c.used + need c)) c.base (addresses c.places) (c.base + c.used)
old_ends c is = ends_on (used_words c.words c.base c.used) (used_words (later_words c) c.base (c.used + need c)) c.base (addresses c.places) (c.base + c.used) is.sealing.stands.ends (λ at n has object.
    let there = stands_placed is.sealing.stands at has in
    let long : n ≡ length (fields c.g there.0) = same_Some n (length (fields c.g there.0)) (sym (object_take c.words (c.base + c.used) at n object) ∙ stands_object is.sealing.stands there.0 at there.1) in
    let end = object_take_end c.words (c.base + c.used) at n object in
    object_in_take (later_words c) (c.base + (c.used + need c)) at n (later_old_object c is there.0 at there.1 ∙ ap Some (sym long)) (omega arith))

new_ends : (c : Sealing) → Appends c → AreEndToEnd (used_words (later_words c) c.base (c.used + need c)) c.address (map (λ m. m.1) (moves c)) (c.address + need c)
new_ends c is = ends_moved (area c) (used_words (later_words c) c.base (c.used + need c)) c.starts c.address (λ m has.
    let one = move_of c is.sealing m has in
    let within = promoted_within c is.sealing one.id m.1 one.to in
    let below = within.below in
    let end = is.end in
    object_in_take (later_words c) (c.base + (c.used + need c)) m.1 (length (field_words (area c).words m.0))
    (new_object c is one.id m.1 one.to ∙ ap Some (sym (own_length c is.sealing one.id one.to.own)) ∙ ap (λ x. Some (length (field_words (area c).words x))) one.index)
    (omega (arith, own_length c is.sealing one.id one.to.own, ap (λ x. length (field_words (area c).words x)) one.index)))

later_ends : (c : Sealing) → Appends c → AreEndToEnd (used_words (later_words c) c.base (c.used + need c)) c.base (addresses (later_places c)) (c.base + (c.used + need c))
later_ends c is =
    let W = used_words (later_words c) c.base (c.used + need c) in
    let starts : addresses (later_places c) ≡ addresses c.places ++ map (λ m. m.1) (moves c) =
    addresses-append c.places (promoted_places (area c) (moves c)) ∙ ap (λ xs. addresses c.places ++ xs) (addresses-promoted (area c) (moves c)) in
    let end = is.end in
    let stop : c.address + need c ≡ c.base + (c.used + need c) = omega arith in
    let Ends : List ℕ → ℕ → Type 0 = λ xs x. AreEndToEnd W c.base xs x in
    let old = subst (Ends (addresses c.places)) (sym end) (old_ends c is) in
    let all = ends_append W c.base (addresses c.places) (map (λ m. m.1) (moves c)) c.address (c.address + need c) old (new_ends c is) in
    subst (λ xs. Ends xs (c.base + (c.used + need c))) (sym starts) (subst (Ends (addresses c.places ++ map (λ m. m.1) (moves c))) stop all)

later_root : (c : Sealing) → Appends c → IsRootAt (used_words (later_words c) c.base (c.used + need c)) c.base
later_root c is =
    let root_object = is.sealing.stands.root_object in
    let place = is.sealing.stands.root_place in
    let end = object_take_end c.words (c.base + c.used) c.base 4 root_object.length in
    let same = later_changed c is root c.base place in
    record {
      length = object_in_take (later_words c) (c.base + (c.used + need c)) c.base 4
          (later_old_object c is root c.base place ∙ sym (stands_object is.sealing.stands root c.base place) ∙ object_take c.words (c.base + c.used) c.base 4 root_object.length) (omega arith);
      birth = get_or-take (c.base + (c.used + need c)) (later_words c) (c.base + 1) 0 (omega arith) ∙ same.birth_same
          ∙ sym (get_or-take (c.base + c.used) c.words (c.base + 1) 0 (omega arith)) ∙ root_object.birth;
    }

-- the graph stands after the seal, as it is committed
pub later_stands : (c : Sealing) → Appends c → StandsCommitted (later_places c) c.g (later_words c) c.base (c.used + need c)
later_stands c is =
    let top = is.sealing.top in
    let end = is.end in
    record {
      below = omega arith;
      ends = later_ends c is;
      root_object = later_root c is;
      root_place = later_old c root c.base is.sealing.stands.root_place;
      names = later_names c is.sealing;
      each = later_each c is;
      visible = later_visible c is.sealing;
    }
