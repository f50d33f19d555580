-- What becomes of values in a seal: each that a placed or a promoted object has refers to objects that stand in the space after it, and its
-- word after the move says where.
use Rattle.std.proofs.Common.{◌≡◌, ℕ, ◌<◌, ◌≤◌, ◌^◌, zero, suc, ◌+◌, ◌*◌, ◌⊎◌, inl, inr, false, List, [], ◌∷◌, map, Option, None, Some, is_some, refl, sym, ap, ◌∙◌, subst, arith}
use Rattle.std.specs.Prelude.{Contains, slice_get}
use Rattle.std.specs.List.{AllByRecursion}
use Rattle.std.proofs.lemmas.Option.{same_Some}
use Rattle.heap_words.specs.declared.Word.{Word}
use Rattle.heap_words.specs.declared.Word.TheVariants as word
use Rattle.heap_words.specs.Header.{birth_bits}
use Rattle.heap_words.proofs.HeaderLaws.{born_in-birth_bits, born_as-birth_bits}
use Rattle.heap_words.specs.Word.{bits, meaning, is_volatile, refers_to_volatile}
use Rattle.graph_model.specs.declared.id.Id.{Id}
use Rattle.graph_model.specs.declared.val.Val.{Val}
use Rattle.graph_model.specs.declared.val.Val.TheVariants.{Null, Int, Ref}
use Rattle.graph_model.specs.Graph.{Graph, fields}
use Rattle.object_layout.specs.Layout.{id_at, id_of}
use Rattle.volatile_area.specs.Area.{starts_of}
use Rattle.graph_words.proofs.Area.Words.{area_starts_own, area_starts_Contains}
use Rattle.graph_words.proofs.Area.State.{starts_of-area_of, own_birth, own_words}
use Rattle.graph_words.proofs.Area.Made.{own_apart}
use Rattle.graph_words.specs.Places.{address_of, made_by, index_of, area_used, IsOwn, IsVisible, word_of, bits_of}
use Rattle.graph_words.proofs.Places.Addresses.{none_or_some, some_address}
use Rattle.graph_words.proofs.Stands.Objects.{visible_meaning, visible_field_word}
use Rattle.graph_words.proofs.Stands.Visible.{place_of-placed, place_of-apart}
use Rattle.graph_words.specs.Promotion.{words_taken, moved, moved_word, promoted_places}
use Rattle.graph_words.proofs.Places.Moves.{moved_to}
use Rattle.graph_words.proofs.Places.Moved.{IsMoved, moved_word-plain, moved_word-moved, moved_word-left}
use Rattle.graph_words.proofs.Seal.Sealing.{Sealing, IsSealing, place, area, moves, need, later_places, later_place}
use Rattle.graph_words.proofs.Seal.Places.{IsOwnAt, address_of-append_left, address_of-append_right, address_of-promoted, promoted_own}

-- The objects of the area.

twice_used : (g : Graph) (t n : ℕ) → 2 * n ≤ area_used g t n
twice_used g t zero = omega arith
twice_used g t (suc n) = let before = twice_used g t n in omega arith

-- a transaction makes few objects
pub own_few : (g : Graph) (t made : ℕ) (id : Id) → area_used g t made ≤ 4096 → IsOwn t made id → id.k < 2 ^ 32
own_few g t made id few own = let last = own.last in let used = twice_used g t made in omega arith

named_by : (birth t k : ℕ) → birth ≡ birth_bits t k → k < 2 ^ 32 → id_of birth ≡ made_by t k
named_by birth t k is small =
    ap id_of is ∙ ap (λ x. record { t = x; k = (id_of (birth_bits t k)).k }) (born_in-birth_bits t k small) ∙ ap (λ x. record { t = t; k = x }) (born_as-birth_bits t k small)

-- an object that starts there in the area
own_at_start : (c : Sealing) → IsSealing c → (at : ℕ) → Contains (starts_of (area c)) at → IsOwnAt (area c) c.g c.t c.made at
own_at_start c is at has =
    let there = area_starts_own c.g c.t c.made at (subst (λ (xs : List ℕ). Contains xs at) (starts_of-area_of is.has) has) in
    let id = there.0 in
    record {
      id = id;
      own = there.1;
      index = there.2;
      name = ap (λ x. id_at (area c).words x) (sym there.2) ∙ named_by _ id.t id.k (own_birth is.has id there.1) (own_few c.g c.t c.made id is.has.few there.1);
    }

-- so does each that is promoted
pub own_at : (c : Sealing) → IsSealing c → (at : ℕ) → Contains c.starts at → IsOwnAt (area c) c.g c.t c.made at
own_at c is at has = own_at_start c is at (is.promotion.own at has)

-- the index of each that the transaction made is a start
pub own_start : (c : Sealing) → IsSealing c → (id : Id) → IsOwn c.t c.made id → Contains (starts_of (area c)) (index_of c.g id)
own_start c is id own = subst (λ (xs : List ℕ). Contains xs (index_of c.g id)) (sym (starts_of-area_of is.has)) (area_starts_Contains c.g c.t c.made id own)

-- Where objects stand.

-- an object of the space stands where it did
pub later_old : (c : Sealing) (id : Id) (at : ℕ) → address_of c.places id ≡ Some at → address_of (later_places c) id ≡ Some at
later_old c id at is = address_of-append_left c.places (promoted_places (area c) (moves c)) id at is

-- one of the transaction stands where it moves to
pub later_own : (c : Sealing) → IsSealing c → (id : Id) → IsOwn c.t c.made id → address_of (later_places c) id ≡ moved (moves c) (index_of c.g id)
later_own c is id own =
    address_of-append_right c.places (promoted_places (area c) (moves c)) id (own_apart is.has own)
    ∙ address_of-promoted (area c) c.g c.t c.made c.starts c.address id (own_at c is) own

-- An object of the transaction that is promoted to an address.
pub record IsPromotedTo (c : Sealing) (id : Id) (at : ℕ) : Type 0 where
  pub own : IsOwn c.t c.made id
  pub moves_there : moved (moves c) (index_of c.g id) ≡ Some at

-- and no other stands there
pub later_cases : (c : Sealing) → IsSealing c → (id : Id) (at : ℕ) → address_of (later_places c) id ≡ Some at → (address_of c.places id ≡ Some at) ⊎ IsPromotedTo c id at
later_cases c is id at there = elim (none_or_some (address_of c.places id)) [
  | inl none ↦
      let new = sym (address_of-append_right c.places (promoted_places (area c) (moves c)) id none) ∙ there in
      let own = promoted_own (area c) c.g c.t c.made c.starts c.address id at (own_at c is) new in
      inr (record { own = own; moves_there = sym (later_own c is id own) ∙ there })
  | inr old ↦ inl (old.1 ∙ ap Some (same_Some old.0 at (sym (later_old c id old.0 old.1) ∙ there)))
]

-- Values.

placed_word : (c : Sealing) (id : Id) (at : ℕ) → address_of c.places id ≡ Some at → word_of (later_place c) (Ref id) ≡ word.Stable at
placed_word c id at is = place_of-placed (later_places c) c.g id at (later_old c id at is)

own_bits : (c : Sealing) → IsSealing c → (id : Id) → IsOwn c.t c.made id → (o : Option ℕ) → moved (moves c) (index_of c.g id) ≡ o
    → meaning (bits_of (place c) (Ref id)) ≡ Some (word.Volatile (index_of c.g id)) → moved_word (moves c) (bits_of (place c) (Ref id)) ≡ bits_of (later_place c) (Ref id)
own_bits c is id own None there meant =
    moved_word-left (moves c) (bits_of (place c) (Ref id)) (index_of c.g id) meant there
    ∙ ap bits (place_of-apart c.places c.g id (own_apart is.has own))
    ∙ sym (ap bits (place_of-apart (later_places c) c.g id (later_own c is id own ∙ there)))
own_bits c is id own (Some at) there meant =
    moved_word-moved (moves c) (bits_of (place c) (Ref id)) (index_of c.g id) at meant there
    ∙ sym (ap bits (place_of-placed (later_places c) c.g id at (later_own c is id own ∙ there)))

own_meaning : (c : Sealing) → IsSealing c → (id : Id) (own : IsOwn c.t c.made id) → meaning (bits_of (place c) (Ref id)) ≡ Some (word.Volatile (index_of c.g id))
own_meaning c is id own = visible_meaning is.stands is.has (Ref id) (inr own) ∙ ap Some (place_of-apart c.places c.g id (own_apart is.has own))

-- the word of a value that stands nowhere in the area refers to no object of it
pub not_volatile : (c : Sealing) → IsSealing c → (v : Val) → IsVisible c.places c.t c.made v → (x : Word) → word_of (place c) v ≡ x → refers_to_volatile (Some x) ≡ false
    → is_volatile (bits_of (place c) v) ≡ false
not_volatile c is v seen x same off = ap refers_to_volatile (visible_meaning is.stands is.has v seen ∙ ap Some same) ∙ off

-- a value's word after the move is its word where objects stand after the seal
pub moved_bits : (c : Sealing) → IsSealing c → (v : Val) → IsVisible c.places c.t c.made v → moved_word (moves c) (bits_of (place c) v) ≡ bits_of (later_place c) v
moved_bits c is Null seen = moved_word-plain (moves c) (bits_of (place c) Null) (not_volatile c is Null tt word.Null refl refl)
moved_bits c is (Int n) seen = moved_word-plain (moves c) (bits_of (place c) (Int n)) (not_volatile c is (Int n) seen (word.Int n) refl refl)
moved_bits c is (Ref id) (inl there) =
    let at = some_address (address_of c.places id) there in
    let here = place_of-placed c.places c.g id at.0 at.1 in
    moved_word-plain (moves c) (bits_of (place c) (Ref id)) (not_volatile c is (Ref id) (inl there) (word.Stable at.0) here refl)
    ∙ ap bits here ∙ sym (ap bits (placed_word c id at.0 at.1))
moved_bits c is (Ref id) (inr own) = own_bits c is id own (moved (moves c) (index_of c.g id)) refl (own_meaning c is id own)

-- the same for several
pub map_moved_bits : (c : Sealing) → IsSealing c → (vs : List Val) → AllByRecursion (IsVisible c.places c.t c.made) vs
    → map (moved_word (moves c)) (map (bits_of (place c)) vs) ≡ map (bits_of (later_place c)) vs
map_moved_bits c is [] seen = refl
map_moved_bits c is (v ∷ vs) seen =
    ap (λ w. w ∷ map (moved_word (moves c)) (map (bits_of (place c)) vs)) (moved_bits c is v seen.0) ∙ ap (λ ws. bits_of (later_place c) v ∷ ws) (map_moved_bits c is vs seen.1)

-- The object that a value refers to is promoted, if the transaction made it.
abbrev pub IsTaken : Sealing → Val → Type 0
IsTaken c v = (at : ℕ) → meaning (bits_of (place c) v) ≡ Some (word.Volatile at) → Contains (starts_of (area c)) at → Contains c.starts at

-- An object moves to one of the words that the seal gives.
pub record IsMovedInto (c : Sealing) (at : ℕ) : Type 0 where
  pub new : ℕ
  pub is : moved (moves c) at ≡ Some new
  pub above : c.address ≤ new
  pub below : new + words_taken (area c) at ≤ c.address + need c

-- each that is promoted does
pub moved_into : (c : Sealing) → (at : ℕ) → Contains c.starts at → IsMovedInto c at
moved_into c at has =
    let there = moved_to (area c) c.starts c.address at has in
    record { new = there.0; is = there.1.is; above = there.1.above; below = there.1.below }

moved_below : (c : Sealing) → IsSealing c → (at : ℕ) → Contains c.starts at → (new : ℕ) × (moved (moves c) at ≡ Some new) × (new < 2097152)
moved_below c is at has =
    let there = moved_into c at has in
    let below = there.below in
    let top = is.top in
    (there.new, there.is, omega arith)

-- an object of the transaction is promoted where such a value refers to it
pub own_taken : (c : Sealing) → IsSealing c → (id : Id) → IsOwn c.t c.made id → IsTaken c (Ref id) → Contains c.starts (index_of c.g id)
own_taken c is id own taken = taken (index_of c.g id) (own_meaning c is id own) (own_start c is id own)

-- then it is an object that stands in the space after the seal
pub taken_visible : (c : Sealing) → IsSealing c → (v : Val) → IsVisible c.places c.t c.made v → IsTaken c v → IsVisible (later_places c) 0 0 v
taken_visible c is Null seen taken = tt
taken_visible c is (Int n) seen taken = seen
taken_visible c is (Ref id) (inl there) taken = let at = some_address (address_of c.places id) there in inl (ap is_some (later_old c id at.0 at.1))
taken_visible c is (Ref id) (inr own) taken =
    let new = moved_into c (index_of c.g id) (own_taken c is id own taken) in
    inl (ap is_some (later_own c is id own ∙ new.is))

volatile_index : (a b : ℕ) → Some (word.Volatile a) ≡ Some (word.Volatile b) → a ≡ b
volatile_index a b same = cc

taken_goes : (c : Sealing) → IsSealing c → (v : Val) → IsVisible c.places c.t c.made v → IsTaken c v → (at : ℕ) → meaning (bits_of (place c) v) ≡ Some (word.Volatile at)
    → (new : ℕ) × (moved (moves c) at ≡ Some new) × (new < 2097152)
taken_goes c is Null seen taken at meant = absurd (cc (meant, visible_meaning is.stands is.has Null tt))
taken_goes c is (Int n) seen taken at meant = absurd (cc (meant, visible_meaning is.stands is.has (Int n) seen))
taken_goes c is (Ref id) (inl there) taken at meant =
    let old = some_address (address_of c.places id) there in
    absurd (cc (meant, visible_meaning is.stands is.has (Ref id) (inl there) ∙ ap Some (place_of-placed c.places c.g id old.0 old.1)))
taken_goes c is (Ref id) (inr own) taken at meant =
    let same = volatile_index (index_of c.g id) at (sym (own_meaning c is id own) ∙ meant) in
    moved_below c is at (subst (λ (x : ℕ). Contains c.starts x) same (own_taken c is id own taken))

-- and its word is one that a move settles
pub taken_moved : (c : Sealing) → IsSealing c → (v : Val) → IsVisible c.places c.t c.made v → IsTaken c v → IsMoved (moves c) (bits_of (place c) v)
taken_moved c is v seen taken = record { word = visible_field_word is.stands is.has v seen; goes = taken_goes c is v seen taken }

-- What is taken.

-- each value of a promoted object is
pub own_values_taken : (c : Sealing) → IsSealing c → (id : Id) → IsOwn c.t c.made id → Contains c.starts (index_of c.g id) → (i : ℕ) (v : Val) → slice_get (fields c.g id) i ≡ Some v
    → IsTaken c v
own_values_taken c is id own has i v got at meant start =
    is.promotion.along (index_of c.g id) i (bits_of (place c) v) at has
    (ap (λ ws. slice_get ws i) (own_words is.has id own) ∙ got_map (bits_of (place c)) (fields c.g id) i v got) meant start
  where
    got_map : {X Y : Type 0} (f : X → Y) (xs : List X) (i : ℕ) (x : X) → slice_get xs i ≡ Some x → slice_get (map f xs) i ≡ Some (f x)
    got_map f [] i x is = absurd (cc is)
    got_map f (y ∷ xs) zero x is = ap (λ z. Some (f z)) (same_Some y x is)
    got_map f (y ∷ xs) (suc i) x is = got_map f xs i x is
