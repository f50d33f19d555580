-- Objects of an area that are promoted within a collection: in the words they go after the used ones, and in the completed words after
-- what is owed to the collection too.
use Rattle.std.proofs.Common.{◌≡◌, ◌⊎◌, ℕ, ◌<◌, ◌≤◌, ◌+◌, inl, inr, Bool, true, false, List, [], ◌∷◌, ◌++◌, length, get_or, Option, None, Some, is_some, refl, sym, ap, ◌∙◌, subst, arith}
use Rattle.std.specs.Prelude.{Contains, ◌||◌, if◌then◌else◌}
use Rattle.heap_words.specs.declared.Word.TheVariants as word
use Rattle.heap_words.specs.Word.{is_volatile, meaning}
use Rattle.heap_spaces.specs.Collection.{Collection}
use Rattle.graph_model.specs.Graph.{Graph, is_same_id}
use Rattle.graph_model.specs.declared.id.Id.{Id}
use Rattle.log_machine.specs.Machine.{State, owed, space_words, words_in}
use Rattle.log_machine.proofs.StateLaws.{spaced_more}
use Rattle.object_layout.specs.Layout.{field_words, id_at}
use Rattle.object_layout.proofs.WalkLaws.{Contains-head, Contains-rest}
use Rattle.volatile_area.specs.Area.{AreaState}
use Rattle.graph_words.specs.Places.{IsOwn, Places, address_of, addresses, index_of}
use Rattle.graph_words.specs.Promotion.{Move, moved, moves_to, promoted_places, words_taken}
use Rattle.graph_words.proofs.Places.Addresses.{address_of-head, address_of-rest, none_or_some}
use Rattle.graph_words.proofs.Places.Moves.{AreDistinct, moved_given, words_needed}
use Rattle.graph_words.proofs.Promotion.Sealed.{sealed_state}
use Rattle.graph_words.proofs.Seal.Places.{IsOwnAt, address_of-append_left, address_of-append_right, address_of-promoted, promoted_own}
use Rattle.collection_words.specs.Completed.{completed, future}
use Rattle.collection_words.specs.LaidOut.{LeadsHere}
use Rattle.collection_words.specs.Placed.{HaveOwnNames}
use Rattle.collection_words.specs.Relocated.{HaveSameIds}
use Rattle.collection_words.proofs.Copy.Moved.{behind_there, not_first}
use Rattle.collection_words.proofs.Copy.Named.{apart_of, own_behind, own_front}
use Rattle.collection_words.proofs.Laid.Completed.{length-completed}
use Rattle.collection_words.proofs.Laid.Sources.{IsCollecting}
use Rattle.collection_words.proofs.Moves.Sources.{put_same}
use Rattle.seal_laws.proofs.Based.{AreWhole, based}

-- A promotion, and where it finds the heap.
pub record Promoting : Type 0 where
  pub s : State
  pub k : Collection
  pub places : Places
  pub remaining : Places
  pub words : List ℕ
  pub area : AreaState
  pub g : Graph
  pub t : ℕ
  pub made : ℕ
  pub starts : List ℕ  -- the objects of the area that are promoted

-- how many words they need
abbrev pub need : Promoting → ℕ
need p = words_needed p.area p.starts

-- where they go in the words
abbrev pub here : Promoting → ℕ
here p = p.s.base + p.s.used

abbrev pub moves_here : Promoting → List Move
moves_here p = moves_to p.area p.starts (here p)

abbrev pub placed_here : Promoting → Places
placed_here p = promoted_places p.area (moves_here p)

-- and in the completed words
abbrev pub there : Promoting → ℕ
there p = p.s.base + (p.s.used + owed p.s)

abbrev pub moves_there : Promoting → List Move
moves_there p = moves_to p.area p.starts (there p)

abbrev pub placed_there : Promoting → Places
placed_there p = promoted_places p.area (moves_there p)

-- The completed words, and the objects of these.

abbrev pub alls : Promoting → Places
alls p = p.places ++ future p.s p.words p.remaining

abbrev pub whole : Promoting → List ℕ
whole p = completed p.s p.places p.remaining p.words

-- with the promoted objects after all others
abbrev pub all_there : Promoting → Places
all_there p = alls p ++ placed_there p

abbrev pub whole_there : Promoting → List ℕ
whole_there p = based p.area p.starts (there p) (whole p)

-- The words after the promotion.

abbrev pub next : Promoting → State
next p = sealed_state p.s p.t (need p)

abbrev pub currents : Promoting → Places
currents p = p.places ++ placed_here p

abbrev pub behind : Promoting → List ℕ
behind p = based p.area p.starts (here p) p.words

-- when they are completed
abbrev pub all_behind : Promoting → Places
all_behind p = currents p ++ future (next p) (behind p) p.remaining

abbrev pub whole_behind : Promoting → List ℕ
whole_behind p = completed (next p) (currents p) p.remaining (behind p)

-- A word of a promoted object leads to a current object, to none, or to an object that is promoted too.
abbrev pub IsOwnWord : Places → List ℕ → ℕ → Type 0
IsOwnWord places starts w =
    ((is_volatile w ≡ false) × LeadsHere (addresses places) (meaning w)) ⊎ ((at : ℕ) × (meaning w ≡ Some (word.Volatile at)) × Contains starts at)

-- What holds of a promotion: a collection runs, objects of the area are promoted that no place names, and there is room for them beside what
-- is owed.
pub record IsPromoting (p : Promoting) : Type 0 where
  pub is : IsCollecting p.s p.k p.places p.remaining p.words
  pub small : words_in p.s.pages ≤ 2097152
  pub own : HaveOwnNames (p.places ++ p.remaining)
  pub are : AreWhole p.area p.starts
  pub each : (at : ℕ) → Contains p.starts at → IsOwnAt p.area p.g p.t p.made at
  pub apart : (id : Id) → IsOwn p.t p.made id → address_of (p.places ++ p.remaining) id ≡ None
  pub leads : (at i : ℕ) → Contains p.starts at → i < length (field_words p.area.words at) → IsOwnWord p.places p.starts (get_or (field_words p.area.words at) i 0)
  pub room : p.s.used + need p + owed p.s ≤ space_words p.s.pages

-- Room.

-- the words have room for what is promoted
pub fits_here : (p : Promoting) → IsPromoting p → here p + need p ≤ length p.words
fits_here p is =
    let room = is.room in
    let more = spaced_more p.s (need p) is.is.spaced (omega arith) in
    let long = is.is.long in omega arith

-- so have the completed words, past what is owed
pub fits_there : (p : Promoting) → IsPromoting p → there p + need p ≤ length (whole p)
fits_there p is =
    let room = is.room in
    let more = spaced_more p.s (owed p.s + need p) is.is.spaced (omega arith) in
    let long = is.is.long in
    let same = length-completed p.s p.places p.remaining p.words in omega arith

-- Names.

-- what has no place among more has none among some
pub none_front : (ps qs : Places) (id : Id) → address_of (ps ++ qs) id ≡ None → address_of ps id ≡ None
none_front ps qs id none = elim (none_or_some (address_of ps id)) [
  | inl is ↦ is
  | inr there ↦ let clash = sym none ∙ address_of-append_left ps qs id there.0 there.1 in cc
]

-- what has no place has none among places of the same objects
pub not_some : (o q : Option ℕ) → is_some o ≡ is_some q → q ≡ None → o ≡ None
not_some None q same none = refl
not_some (Some a) q same none = let clash = same ∙ ap is_some none in cc

-- names stay their own where places of others are appended
pub own_append : (ps qs : Places) → HaveOwnNames ps → HaveOwnNames qs → ((id : Id) (at : ℕ) → address_of ps id ≡ Some at → address_of qs id ≡ None) → HaveOwnNames (ps ++ qs)
own_append [] qs one other apart = other
own_append (p ∷ ps) qs one other apart = (
  address_of-append_right ps qs p.0 one.0 ∙ apart p.0 p.1 (address_of-head p ps),
  own_append ps qs one.1 other (λ id at is. apart id at (address_of-rest p ps id (not_first p ps id at one.0 is) ∙ is)),
)

-- What is promoted, by its name.
pub record IsPromotedAt (p : Promoting) (address : ℕ) (id : Id) (at : ℕ) : Type 0 where
  pub own : IsOwn p.t p.made id
  pub has : Contains p.starts (index_of p.g id)
  pub goes : moved (moves_to p.area p.starts address) (index_of p.g id) ≡ Some at

-- each that has a place is such
pub promoted_at : (p : Promoting) → IsPromoting p → (address : ℕ) (id : Id) (at : ℕ) → address_of (promoted_places p.area (moves_to p.area p.starts address)) id ≡ Some at → IsPromotedAt p address id at
promoted_at p is address id at there =
    let own = promoted_own p.area p.g p.t p.made p.starts address id at is.each there in
    let goes = sym (address_of-promoted p.area p.g p.t p.made p.starts address id is.each own) ∙ there in
    record { own = own; has = moved_given p.area p.starts address (index_of p.g id) at goes; goes = goes }

-- and has the place where it goes
pub promoted_there : (p : Promoting) → IsPromoting p → (address at new : ℕ) → Contains p.starts at → moved (moves_to p.area p.starts address) at ≡ Some new
    → (id : Id) × (address_of (promoted_places p.area (moves_to p.area p.starts address)) id ≡ Some new) × (index_of p.g id ≡ at)
promoted_there p is address at new has goes =
    let one = is.each at has in
    (one.id, address_of-promoted p.area p.g p.t p.made p.starts address one.id is.each one.own ∙ ap (moved (moves_to p.area p.starts address)) one.index ∙ goes, one.index)

placed_own : (area : AreaState) (g : Graph) (t made : ℕ) (starts : List ℕ) (address : ℕ) → AreDistinct starts → ((at : ℕ) → Contains starts at → IsOwnAt area g t made at)
    → HaveOwnNames (promoted_places area (moves_to area starts address))
placed_own area g t made [] address distinct each = tt
placed_own area g t made (at ∷ rest) address distinct each =
    let one = each at (Contains-head at rest) in
    let after = address + words_taken area at in
    let ms = moves_to area rest after in
    let others : (a : ℕ) → Contains rest a → IsOwnAt area g t made a = λ a has. each a (Contains-rest at rest a has) in (
      ap (address_of (promoted_places area ms)) one.name ∙ address_of-promoted area g t made rest after one.id others one.own
          ∙ elim (none_or_some (moved ms (index_of g one.id))) [
            | inl none ↦ none
            | inr goes ↦ absurd (distinct.0 (subst (λ (x : ℕ). Contains rest x) one.index (moved_given area rest after (index_of g one.id) goes.0 goes.1)))
          ],
      placed_own area g t made rest after distinct.1 others,
    )

-- their names are their own
pub own_placed : (p : Promoting) → IsPromoting p → (address : ℕ) → HaveOwnNames (promoted_places p.area (moves_to p.area p.starts address))
own_placed p is address = placed_own p.area p.g p.t p.made p.starts address is.are.distinct is.each

-- and no other place's
pub none_placed : (p : Promoting) → IsPromoting p → (address : ℕ) (id : Id) (at : ℕ) → address_of (p.places ++ p.remaining) id ≡ Some at
    → address_of (promoted_places p.area (moves_to p.area p.starts address)) id ≡ None
none_placed p is address id at stands = elim (none_or_some (address_of (promoted_places p.area (moves_to p.area p.starts address)) id)) [
  | inl none ↦ none
  | inr new ↦ let clash = sym (is.apart id (promoted_at p is address id new.0 new.1).own) ∙ stands in cc
]

-- so names are their own after the promotion
pub own_currents : (p : Promoting) → IsPromoting p → HaveOwnNames (currents p)
own_currents p is =
    own_append p.places (placed_here p) (own_front p.places p.remaining is.own) (own_placed p is (here p))
    (λ id at stands. none_placed p is (here p) id at (address_of-append_left p.places p.remaining id at stands))

left_apart : (p : Promoting) → IsPromoting p → (id : Id) (at : ℕ) → address_of (currents p) id ≡ Some at → address_of p.remaining id ≡ None
left_apart p is id at stands = elim (none_or_some (address_of p.remaining id)) [
  | inl none ↦ none
  | inr left ↦
      let old = apart_of p.places p.remaining id left.0 is.own left.1 in
      let whole = behind_there p.places p.remaining id left.0 is.own left.1 in
      let new = sym (address_of-append_right p.places (placed_here p) id old) ∙ stands in
      let clash = sym new ∙ none_placed p is (here p) id left.0 whole in cc
]

pub own_behind_all : (p : Promoting) → IsPromoting p → HaveOwnNames (currents p ++ p.remaining)
own_behind_all p is = own_append (currents p) p.remaining (own_currents p is) (own_behind p.places p.remaining is.own) (left_apart p is)

-- The same objects.

both_there : (b : Bool) (x y : ℕ) (o q : Option ℕ) → is_some o ≡ is_some q → is_some (if b then Some x else o) ≡ is_some (if b then Some y else q)
both_there true x y o q same = refl
both_there false x y o q same = same

placed_same : (area : AreaState) (starts : List ℕ) (a b : ℕ) (id : Id) → is_some (address_of (promoted_places area (moves_to area starts a)) id) ≡ is_some (address_of (promoted_places area (moves_to area starts b)) id)
placed_same area [] a b id = refl
placed_same area (at ∷ rest) a b id = both_there (is_same_id (id_at area.words at) id) a b _ _ (placed_same area rest (a + words_taken area at) (b + words_taken area at) id)

some_append : (ps qs : Places) (id : Id) → is_some (address_of (ps ++ qs) id) ≡ (is_some (address_of ps id) || is_some (address_of qs id))
some_append ps qs id = elim (none_or_some (address_of ps id)) [
  | inl none ↦ ap is_some (address_of-append_right ps qs id none) ∙ sym (ap (λ o. is_some o || is_some (address_of qs id)) none)
  | inr there ↦ ap is_some (address_of-append_left ps qs id there.0 there.1) ∙ sym (ap (λ o. is_some o || is_some (address_of qs id)) there.1)
]

or_swap : (a b c : Bool) → ((a || b) || c) ≡ ((a || c) || b)
or_swap true b c = refl
or_swap false true true = refl
or_swap false true false = refl
or_swap false false true = refl
or_swap false false false = refl

-- the same objects have places in the completed words, with the promoted ones after all others or after the current ones
pub same_objects : (p : Promoting) → HaveSameIds (all_there p) (all_behind p)
same_objects p id =
    let old = is_some (address_of p.places id) in
    let left = is_some (address_of p.remaining id) in
    let new = is_some (address_of (placed_here p) id) in
    let to_come = put_same p.words p.remaining (p.s.base + p.s.used) id in
    let to_come' = put_same (behind p) p.remaining ((next p).base + (next p).used) id in
    let first : is_some (address_of (all_there p) id) ≡ ((old || left) || new) =
    some_append (alls p) (placed_there p) id
    ∙ ap (λ b. b || is_some (address_of (placed_there p) id)) (some_append p.places (future p.s p.words p.remaining) id ∙ ap (λ b. old || b) to_come)
    ∙ ap (λ b. (old || left) || b) (placed_same p.area p.starts (there p) (here p) id) in
    let second : is_some (address_of (all_behind p) id) ≡ ((old || new) || left) =
    some_append (currents p) (future (next p) (behind p) p.remaining) id
    ∙ ap (λ b. b || is_some (address_of (future (next p) (behind p) p.remaining) id)) (some_append p.places (placed_here p) id) ∙ ap (λ b. (old || new) || b) to_come' in
    first ∙ or_swap old left new ∙ sym second

-- the same objects are current after the promotion, or remain
pub same_left : (p : Promoting) (id : Id) → is_some (address_of (all_there p) id) ≡ is_some (address_of (currents p ++ p.remaining) id)
same_left p id =
    same_objects p id
    ∙ some_append (currents p) (future (next p) (behind p) p.remaining) id
    ∙ ap (λ b. is_some (address_of (currents p) id) || b) (put_same (behind p) p.remaining ((next p).base + (next p).used) id)
    ∙ sym (some_append (currents p) p.remaining id)
